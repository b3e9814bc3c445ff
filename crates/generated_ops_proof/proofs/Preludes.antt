-- The prelude of a builder that took the ops of a specification sets the variables that the specification names.
use Rattle.std.proofs.Common.{◌≡◌, ⊎_elim, ℕ, Bool, true, false, List, ◌++◌, length, refl, ap}
use Rattle.std.proofs.Common.{arith}
use Rattle.meaning_state.specs.Rows.{is_among, keys_of}
use Rattle.icode_ir.specs.declared.build_op.BuildOp.{BuildOp}
use Rattle.icode_ir.specs.Build.{Build, empty}
use Rattle.tick_lower_spec.specs.Specifications.{specification_ops}
use Rattle.generator_laws.specs.Laws.{built_of}
use Rattle.generator_laws.specs.Pieces.{syntax_ops}
use Rattle.compile_routine.specs.Laws.{return_ops}
use Rattle.generator_spec.proofs.Lowered.{lowered}
use Rattle.generator_spec.specs.FittingLaws.{ticks_of, program_pieces}
use Rattle.generated_ops_proof.specs.Laws.{PreludesSetKeys}
use Rattle.generated_ops_proof.specs.Keys.{zeroes, told, firsts}
use Rattle.generated_ops_proof.specs.Room.{in_all}
use Rattle.generated_ops_proof.proofs.Rooms.{in_both}
use Rattle.generated_ops_proof.proofs.Mentions.{names_key, all_mention, all_told}
use Rattle.generated_ops_proof.proofs.LocalSums.{locals_less}
use Rattle.generated_ops_proof.proofs.KeyOps.{syntax_names}
use Rattle.generated_ops_proof.proofs.KeysBack.{syntax_back}
use Rattle.generated_ops_proof.proofs.Placed.{all_placed, parameters_few}
use Rattle.generated_ops_proof.proofs.Firsts.{has_first, all_back, all_distinct, locals_told}

-- a return names none
no_name : (v : Bool) (key : ℕ) → in_all (names_key key) (return_ops v) ≡ 0
no_name true key = omega arith
no_name false key = refl

pub preludes_set : PreludesSetKeys
preludes_set p accepted addresses syntax parameters v has =
    let same : syntax_ops (program_pieces addresses p) syntax ≡ specification_ops addresses (ticks_of p) syntax =
    lowered addresses (ticks_of p) syntax in
    let first : List BuildOp = specification_ops addresses (ticks_of p) syntax in
    let ops : List BuildOp = first ++ return_ops v in
    let after : Build = built_of ops (empty parameters) in
    let counts : (key : ℕ) → in_all (names_key key) ops ≡ in_all (names_key key)
    (syntax_ops (program_pieces addresses p)
    syntax) =
    λ key. omega (
      arith,
      in_both (names_key key) first (return_ops v),
      no_name v key,
      ap (λ z. in_all (names_key key) z) same,
    ) in
    let named : (key : ℕ) → is_among key (keys_of syntax) ≡ true → is_among key (firsts after.keys) ≡ true =
    λ key among.
    let some = syntax_names p accepted addresses syntax has key among in
    has_first key after.keys (all_mention key ops (empty parameters) (omega (arith, counts key, some))) in
    let no_more : (key : ℕ) → is_among key (firsts after.keys) ≡ true → is_among key (keys_of syntax) ≡ true =
    λ key among.
    ⊎_elim
    (λ l. absurd (none l))
    (λ s. syntax_back p accepted addresses syntax has key (omega (arith, counts key, s)))
    (all_back key ops (empty parameters) among) in
    let prelude : after.prelude ≡ told after.keys = all_told ops (empty parameters) refl in
    let distinct = all_distinct ops (empty parameters) tt in record {
      prelude = prelude;
      distinct = distinct;
      registers = (all_placed ops (empty parameters) (tt, tt)).1;
      parameters = parameters_few after.keys distinct;
      named = named;
      no_more = no_more;
      locals = omega (
        arith,
        ap (λ z. length (zeroes z)) prelude,
        locals_told after.keys distinct,
        locals_less (firsts after.keys) (keys_of syntax) no_more,
        locals_less (keys_of syntax) (firsts after.keys) named,
      );
    }
  where
    none : false ≡ true → ⊥
    none e = cc
