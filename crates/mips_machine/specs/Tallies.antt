-- What the services that make code are counted as, and what a run's outside has of these counts.
use Rattle.std.specs.Prelude.{ℕ, ◌+◌}
use Rattle.mips_model.specs.declared.service.Service.{Service}
use Rattle.mips_model.specs.declared.service.Service.TheVariants.{PutInt, Exit, PutByte, GetByte, Begin, Emit, Finish}
use Rattle.mips_model.specs.declared.service.Service.TheVariants.{Flush, Publish}
use Rattle.mips_model.specs.State.{Outside}
use Rattle.mips_machine.specs.declared.tally.Tally.{Tally}

-- a service answered v
abbrev pub tallied : Service → ℕ → Tally → Tally
tallied PutInt v t = t
tallied Exit v t = t
tallied PutByte v t = t
tallied GetByte v t = t
tallied Begin v t = t
tallied Emit v t = record t { ops = t.ops + 1 }
tallied Finish v t = record t { words = t.words + v }
tallied Flush v t = record t { flushes = t.flushes + 1 }
tallied Publish v t = record t { functions = t.functions + 1 }

-- no count is more than all of them together
abbrev pub most_of : Tally → ℕ
most_of t = t.ops + t.functions + t.words + t.flushes

abbrev pub no_tally : Tally
no_tally = record { ops = 0; functions = 0; words = 0; flushes = 0 }

-- the counts that an outside has, and an outside with others
abbrev pub tally_of : Outside → Tally
tally_of o = record {
  ops = o.making.ops;
  functions = o.making.functions;
  words = o.making.words;
  flushes = o.flushes;
}

abbrev pub with_tally : Tally → Outside → Outside
with_tally t o = record o {
  flushes = t.flushes;
  making = record o.making { ops = t.ops; functions = t.functions; words = t.words };
}
