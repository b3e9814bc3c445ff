-- A name in a tick, which captures what is of the function round it, and under `$`, where nothing is captured.
use Rattle.std.proofs.Common.{◌≡◌, ℕ, ◌+◌, ◌-◌, ◌≤◌, Bool, true, false, if◌then◌else◌, nat_eq, [], ◌∷◌, ◌++◌}
use Rattle.std.proofs.Common.{length, refl, subst, ap, sym, ◌∙◌, Option, Some, None, Ok, arith, length-append}
use Rattle.std.specs.Prelude.{slice_get}
use Rattle.std.proofs.lemmas.Bool.Decides.{nat_tests}
use Rattle.std.proofs.lemmas.List.{length-map}
use Rattle.c_types.specs.declared.ctype.CType.{CType}
use Rattle.check_scopes.specs.declared.names.Meaning.{Meaning}
use Rattle.check_scopes.specs.declared.names.MeaningKind.{MeaningKind}
use Rattle.check_scopes.specs.declared.names.MeaningKind.TheVariants as kind
use Rattle.check_scopes.specs.Scopes.{Name, find}
use Rattle.check_types.specs.Shapes.{is_cspec, is_vspec, inner}
use Rattle.typed_tree.specs.declared.expression.CaptureKind.{CaptureKind}
use Rattle.typed_tree.specs.declared.expression.CaptureKind.TheVariants as capture
use Rattle.typed_tree.specs.declared.expression.CapturedWord.TheVariants as word
use Rattle.typed_tree.specs.declared.expression.Expr.{Expr}
use Rattle.typed_tree.specs.declared.expression.Expr.TheVariants as ex
use Rattle.check_operands.specs.declared.operand.Operand.{Operand}
use Rattle.check_rules.specs.declared.frame.Home.{Home}
use Rattle.check_rules.specs.Ticks as ticks
use Rattle.check_rules.specs.Bounds.{count_bound}
use Rattle.check_rules.specs.declared.state.Stage.{Stage}
use Rattle.check_rules.specs.declared.state.Stage.TheVariants as stage
use Rattle.check_rules.specs.declared.state.State.{State}
use Rattle.check_rules.specs.Names.{answer_of, splice, generated, outer_object, outer_variable, outer_global, in_tick}
use Rattle.check_rules.specs.Names.{under_dollar, home_by, meant, named_by, named}
use Rattle.check_rules.specs.Names.{address_by}
use Rattle.wellformed.specs.Captured.{Naming, next, none}
use Rattle.wellformed.proofs.Named.{named_const, named_captured, named_splice}
use Rattle.wf_walk.specs.Captured.{HasLibrary, taken, AreSilent, Names, NamesFrom}
use Rattle.wf_walk.specs.Steps.{one_kind, kinds}
use Rattle.wf_walk.proofs.Captures.{kinds_more, count_small}
use Rattle.wf_walk.specs.Named.{operand_named, IsInside}
use Rattle.wf_walk.proofs.CapturedRules.{Same, at}
use Rattle.wf_walk.proofs.CapturedSteps.{names_still, given}

-- ---- one capture

-- the next capture has the number of those before it
next_here : (s : State) (k : CaptureKind) → taken s ≤ count_bound →
    next k (ticks.place s.ticks) (Some (kinds s.ticks.captures)) ≡ Some (kinds s.ticks.captures ++ k ∷ [])
next_here s k small =
    let l = length-map s.ticks.captures one_kind in
    let c = count_small s.ticks.captures small in
    let e : nat_eq (length (kinds s.ticks.captures)) (ticks.place s.ticks) ≡ true = grind (arith, nat_tests, l, c) in
    rw e refl

-- one capture more, which is named
pub caught : {f : Naming} {s new : State} (k : CaptureKind) (e : Expr) →
    new.ticks.captures ≡ s.ticks.captures ++ ex.Capture k e ∷ [] → HasLibrary new →
    new.frame.nodes ≡ s.frame.nodes → Same f (next k (ticks.place s.ticks)) → Names none f s new
caught {f} {s} {new} k e is lib nodes h =
    let one : taken new ≡ taken s + 1 = ap length is ∙ length-append s.ticks.captures (ex.Capture k e ∷ []) in
    record {
      library = lib;
      variables = λ v. subst AreSilent (sym nodes) v;
      grows = omega (arith, one);
      is = λ small ks q.
          h ks
          ∙ ap (next k (ticks.place s.ticks)) q
          ∙ next_here s k (omega (arith, one, small))
          ∙ ap Some (sym (ap kinds is ∙ kinds_more s.ticks.captures k e));
    }

-- what a step answers, and what it leaves
abbrev pub Answers : Stage → State → Operand × State → Type 0
Answers g s p = Names none (operand_named g p.0) s p.1

-- ---- names in a tick

splice_names : (t : CType) (e : Expr) (s : State) → HasLibrary s → Answers stage.Tick s (splice t e s)
splice_names t e s lib =
    caught (capture.Splice (answer_of (inner t))) e refl lib refl
    (λ n. at n (named_splice (answer_of (inner t)) (ticks.place s.ticks)))

generated_names : (t : CType) (e : Expr) (s : State) → HasLibrary s → Answers stage.Tick s (generated t e s)
generated_names t e s lib = caught capture.Variable e refl lib refl (λ n. refl)

object_names : (n : ℕ) (h : Home) (t : CType) (s : State) → HasLibrary s → Answers stage.Tick s (outer_object n h t s)
object_names n h t s lib =
    caught capture.Address (address_by h) refl lib refl
    (λ n. at n (named_captured word.Address (ticks.place s.ticks)))

by_type : (c v : Bool) (s : State) (p q r : Operand × State) → Answers stage.Tick s p → Answers stage.Tick s q →
    Answers stage.Tick s r → Answers stage.Tick s (if c then p else (if v then q else r))
by_type true v s p q r x y z = x
by_type false true s p q r x y z = y
by_type false false s p q r x y z = z

outer_names : (n : ℕ) (h : Home) (t : CType) (s : State) → HasLibrary s → Answers stage.Tick s (outer_variable n h t s)
outer_names n h t s lib =
    by_type (is_cspec t) (is_vspec t) s _ _ _ (splice_names t _ s lib) (generated_names t _ s lib)
    (object_names n h t s lib)

global_names : (address : ℕ) (t : CType) (s : State) → HasLibrary s → Answers stage.Tick s (outer_global address t s)
global_names address t s lib =
    by_type (is_cspec t) (is_vspec t) s _ _ _ (splice_names t _ s lib) (generated_names t _ s lib)
    (names_still (λ n. at n (named_const address)) lib)

tick_names : (n : ℕ) (t : CType) (h : Option Home) (s new : State) (x : Operand) → in_tick n t h s ≡ Ok (x, new) →
    HasLibrary s → Names none (operand_named stage.Tick x) s new
tick_names n t None s new x e lib = given (operand_named stage.Tick) _ (names_still (λ n. refl) lib) e
tick_names n t (Some h) s new x e lib = given (operand_named stage.Tick) _ (outer_names n h t s lib) e

dollar_names : (line n : ℕ) (t : CType) (h : Option Home) (s new : State) (x : Operand) →
    under_dollar line n t h s ≡ Ok (x, new) → HasLibrary s → Names none (operand_named stage.Dollar x) s new
dollar_names line n t None s new x e lib = absurd (cc)
dollar_names line n t (Some h) s new x e lib = given (operand_named stage.Dollar) _ (names_still (λ n. refl) lib) e

-- ---- all names

meant_names : (line : ℕ) (g : Stage) (k : MeaningKind) (n : ℕ) (t : CType) → IsInside g →
    NamesFrom none (operand_named g) (meant line g k n t)
meant_names line stage.Function k n t w s new x e lib = absurd w
meant_names line stage.Tick kind.Variable n t w s new x e lib =
    tick_names n t (slice_get s.frame.homes n) s new x e lib
meant_names line stage.Tick kind.Parameter n t w s new x e lib =
    given (operand_named stage.Tick) _ (outer_names n (home_by (slice_get s.frame.homes n)) t s lib) e
meant_names line stage.Tick kind.Global n t w s new x e lib =
    given (operand_named stage.Tick) _ (global_names n t s lib) e
meant_names line stage.Tick kind.Function n t w s new x e lib =
    given (operand_named stage.Tick) _ (names_still (λ n. refl) lib) e
meant_names line stage.Tick kind.Library n t w s new x e lib = absurd (cc)
meant_names line stage.Dollar kind.Variable n t w s new x e lib =
    dollar_names line n t (slice_get s.frame.homes n) s new x e lib
meant_names line stage.Dollar kind.Parameter n t w s new x e lib =
    given (operand_named stage.Dollar) _ (names_still (λ n. refl) lib) e
meant_names line stage.Dollar kind.Global n t w s new x e lib =
    given (operand_named stage.Dollar) _ (names_still (λ n. refl) lib) e
meant_names line stage.Dollar kind.Function n t w s new x e lib =
    given (operand_named stage.Dollar) _ (names_still (λ n. refl) lib) e
meant_names line stage.Dollar kind.Library n t w s new x e lib = absurd (cc)

found_names : (line : ℕ) (g : Stage) (m : Option Meaning) → IsInside g →
    NamesFrom none (operand_named g) (named_by line g m)
found_names line g None w s new x e lib = absurd (cc)
found_names line g (Some m) w s new x e lib = meant_names line g m.kind m.index m.ctype w s new x e lib

pub name_names : (line : ℕ) (g : Stage) (name : Name) → IsInside g →
    NamesFrom none (operand_named g) (named line g name)
unfolding named
name_names line g name w s new x e lib = found_names line g (find s.scopes name) w s new x e lib
