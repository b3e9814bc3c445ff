use Rattle.std.proofs.Common.{◌≡◌, subst}
use Rattle.std.specs.Option.{option_copied}
use Rattle.c_types.specs.Types.{layers_of}
use Rattle.c_type_refs.specs.Codes.{code_of}
use Rattle.c_type_refs.specs.Shared.{IsCodeOf}
use Rattle.c_type_refs.proofs.Coded.{alone_lent}
use Rattle.c_type_refs.proofs.parameters.Parameter.layers.Goals as goal

pub coded-requires : goal.coded-requires
coded-requires c =
    let code : c.in-Some.code.now ≡ code_of (layers_of c.self.inside.ctype.now) =
    subst (λ o. IsCodeOf (layers_of c.self.inside.ctype.now) (option_copied o)) c.in-Some.is c.self.invariant in
    rw (c.lent.ensures, c.as_slice.ensures, c.as_slice-layers.ensures)
    (alone_lent (layers_of c.self.inside.ctype.now) c.in-Some.code.now code)
