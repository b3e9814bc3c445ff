-- The places of a choice by linear scan are legal.
use Rattle.std.proofs.Common.{sym, subst}
use Rattle.icode_ops.specs.Places.{IsLegal}
use Rattle.linear_scan_spec.proofs.Legals.{places-are-legal}
use Rattle.mips_model.specs.ServiceLaws.{ChoicesAreLegal}

pub choices-are-legal : ChoicesAreLegal
choices-are-legal ops registers choice scanned =
    subst (IsLegal ops registers) (sym scanned.same)
    (places-are-legal ops registers scanned.intervals scanned.found)
