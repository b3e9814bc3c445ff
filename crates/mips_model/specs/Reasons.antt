-- The numbers of the reasons for which a service is refused. They are this project's own.
use Rattle.std.specs.Prelude.{ℕ}
use Rattle.mips_model.specs.declared.bad_service.BadService.{BadService}
use Rattle.mips_model.specs.declared.bad_service.BadService.TheVariants as reason

abbrev pub reason_number : BadService → ℕ
reason_number reason.NoService = 1
reason_number reason.Begun = 2
reason_number reason.NotBegun = 3
reason_number reason.BadArgument = 4
reason_number reason.BadOp = 5
reason_number reason.NotEmpty = 6
reason_number reason.OutsideArena = 7
reason_number reason.Short = 8
reason_number reason.BadFrame = 9
reason_number reason.BadRow = 10
