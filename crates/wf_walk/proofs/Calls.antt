-- Calls, of a library function by its name and of all else.
use Rattle.std.proofs.Common.{◌≡◌, ℕ, List, [], ◌∷◌, refl, subst, Option, Some, None, Ok}
use Rattle.c_types.specs.declared.ctype.CType.{CType}
use Rattle.check_scopes.specs.declared.names.Meaning.{Meaning}
use Rattle.check_scopes.specs.declared.names.MeaningKind.{MeaningKind}
use Rattle.check_scopes.specs.declared.names.MeaningKind.TheVariants as kind
use Rattle.check_scopes.specs.Scopes.{Name, find}
use Rattle.typed_tree.specs.declared.expression.CaptureKind.{CaptureKind}
use Rattle.check_operands.specs.declared.operand.Operand.{Operand}
use Rattle.check_operands.specs.declared.arguments.Arguments.{Arguments}
use Rattle.check_operands.specs.Calls as calls
use Rattle.check_rules.specs.Walks.{◌>>=◌, lift}
use Rattle.check_rules.specs.declared.state.Stage.{Stage}
use Rattle.check_rules.specs.declared.state.State.{State}
use Rattle.check_rules.specs.Names.{library_at, library_by, library}
use Rattle.check_rules.specs.Productions as productions
use Rattle.check_rules.specs.ExpressionRules.{Node, arguments, library_of, library_call, plain_call, call_of, call}
use Rattle.wf_nodes.specs.Used.{IsLibrary}
use Rattle.wf_walk.specs.Known.{Blocks, Means, EachScope, Small, Known}
use Rattle.wf_walk.specs.Steps.{Round, at, Did, Does}
use Rattle.wf_walk.specs.Good.{GoodNode}
use Rattle.wf_walk.specs.Parts.{EachPart}
use Rattle.wf_walk.proofs.Steps.{Goes, implies, then, answers, decides, by_premise}
use Rattle.wf_walk.proofs.ExpressionNames.{known_name}
use Rattle.wf_walk.proofs.ExpressionNodes.{ArgumentsStand, good_none, good_argument, good_library, good_call}
use Rattle.wf_walk.proofs.ExpressionRules.{Right, part}

-- ---- arguments

abbrev Listed : Stage → Arguments → Round → Arguments → Type 0
Listed g before r list = ArgumentsStand (at g r) before → ArgumentsStand (at g r) list

arguments_go : {many : List ℕ} (list : List Node) (before : Arguments) (g : Stage) → EachPart (GoodNode many) list →
    Goes many g (Listed g before) (arguments list before g)
arguments_go [] before g h = answers (Listed g before) before (λ r x. x)
arguments_go (a ∷ rest) before g h =
    then (Right g) (Listed g before) (a.walk g) (λ x. arguments rest (productions.argument before x) g) (part a g h.0)
    (λ x. implies (Listed g (productions.argument before x)) (λ r list. Right g r x → Listed g before r list)
    (arguments rest (productions.argument before x) g)
    (arguments_go rest (productions.argument before x) g h.1) (λ r list k o w. k (good_argument (at g r) before x w o)))

abbrev AllStand : Stage → Round → Arguments → Type 0
AllStand g r list = ArgumentsStand (at g r) list

all_go : {many : List ℕ} (list : List Node) (g : Stage) → EachPart (GoodNode many) list →
    Goes many g (AllStand g) (arguments list calls.no_arguments g)
all_go list g h =
    implies (Listed g calls.no_arguments) (AllStand g) (arguments list calls.no_arguments g)
    (arguments_go list calls.no_arguments g h) (λ r xs k. k (good_none (at g r)))

-- ---- calls

library_goes : {many : List ℕ} (line n : ℕ) (t : CType) (list : List Node) (g : Stage) → EachPart (GoodNode many) list →
    Goes many g (λ r o. IsLibrary n t → Right g r o) (library_call line n t list g)
library_goes line n t list g h =
    then (AllStand g) (λ r o. IsLibrary n t → Right g r o) (arguments list calls.no_arguments g)
    (λ xs. lift (calls.library line n t xs)) (all_go list g h)
    (λ xs. decides (λ r o. AllStand g r xs → IsLibrary n t → Right g r o) (calls.library line n t xs)
    (λ r i. by_premise (AllStand g r xs) (λ o. IsLibrary n t → Right g r o) (calls.library line n t xs)
    (λ k. by_premise (IsLibrary n t) (Right g r) (calls.library line n t xs)
    (λ l. good_library (at g r) line n t xs l k))))

plain_goes : {many : List ℕ} (line : ℕ) (f : Node) (list : List Node) (g : Stage) → GoodNode many f →
    EachPart (GoodNode many) list → Goes many g (Right g) (plain_call line f list g)
plain_goes line f list g h k =
    then (Right g) (Right g) (f.walk g)
    (λ o. arguments list calls.no_arguments g >>= (λ xs. lift (productions.call_node line g o xs))) (part f g h)
    (λ o. then (AllStand g) (λ r x. Right g r o → Right g r x) (arguments list calls.no_arguments g)
    (λ xs. lift (productions.call_node line g o xs)) (all_go list g k)
    (λ xs. decides (λ r x. AllStand g r xs → Right g r o → Right g r x) (productions.call_node line g o xs)
    (λ r i. by_premise (AllStand g r xs) (λ x. Right g r o → Right g r x) (productions.call_node line g o xs)
    (λ l. by_premise (Right g r o) (Right g r) (productions.call_node line g o xs)
    (λ q. good_call (at g r) line g o xs q l)))))

-- ---- which call it is

library_meant : (many : List ℕ) (g : Stage) (b : Blocks) (s : State) (m : Meaning) (k : MeaningKind) (l : ℕ × CType) →
    Means many g b s [] m k → library_at k m.index m.ctype ≡ Some l → IsLibrary l.0 l.1
library_meant many g b s m kind.Variable l h e = cc
library_meant many g b s m kind.Parameter l h e = cc
library_meant many g b s m kind.Global l h e = cc
library_meant many g b s m kind.Function l h e = cc
library_meant many g b s m kind.Library l h e = let same : ◌≡◌ {A = ℕ × CType} (m.index, m.ctype) l = cc in
    subst (λ p. IsLibrary p.0 p.1) same h

library_found : (many : List ℕ) (g : Stage) (b : Blocks) (s : State) (m : Option Meaning) (l : ℕ × CType) →
    ((y : Meaning) → m ≡ Some y → Means many g b s [] y y.kind) → library_by m ≡ Some l → IsLibrary l.0 l.1
library_found many g b s None l h e = cc
library_found many g b s (Some m) l h e = library_meant many g b s m m.kind l (h m refl) e

library_known : (many : List ℕ) (g : Stage) (b : Blocks) (s : State) (name : Option Name) (l : ℕ × CType) →
    EachScope (λ n x. Means many g b s n x x.kind) s.scopes → library_of name s ≡ Some l → IsLibrary l.0 l.1
unfolding library
library_known many g b s None l h e = cc
library_known many g b s (Some name) l h e =
    library_found many g b s (find s.scopes name) l (λ y k. known_name many g b s name y h k) e

call_of_did : {many : List ℕ} {b : Blocks} {ks : List (List CaptureKind)} {s new : State} {x : Operand} (line : ℕ)
    (f : Node) (list : List Node) (g : Stage) (l : Option (ℕ × CType)) → GoodNode many f →
    EachPart (GoodNode many) list →
    Known many g b ks s → ((y : ℕ × CType) → l ≡ Some y → Small g s → IsLibrary y.0 y.1) →
    call_of line f list g l s ≡ Ok (x, new) → Did many g b ks s new (λ r. Right g r x)
call_of_did {b = b} {ks} {s} {new} {x} line f list g None h k known u e =
    (plain_goes line f list g h k).does b ks s new x known e
call_of_did {b = b} {ks} {s} {new} {x} line f list g (Some l) h k known u e =
    let d = (library_goes line l.0 l.1 list g k).does b ks s new x known e in
    record {
      more = d.more;
      known = d.known;
      back = d.back;
      ticks = d.ticks;
      captures = d.captures;
      stands =
          λ r a. d.stands r a (u l refl (d.back r a).small);
    }

pub call_does : (many : List ℕ) (line : ℕ) (f : Node) (list : List Node) (g : Stage) → GoodNode many f →
    EachPart (GoodNode many) list → Does many g (Right g) (call line f list g)
call_does many line f list g h k b ks s new x known e =
    call_of_did line f list g (library_of f.written.name s) h k known
    (λ y l small. library_known many g b s f.written.name y (known small).names l) e
