-- What stands under `$`, and `&`.
use Rattle.std.proofs.Common.{◌≡◌, ℕ, true, List, refl, sym, ap, subst, ◌∙◌, Option, Some, None, Ok, Err}
use Rattle.std.proofs.lemmas.Bool.{le-leb}
use Rattle.std.proofs.Common.{arith}
use Rattle.c_types.specs.declared.ctype.CType.{CType}
use Rattle.c_types.specs.declared.ctype.Layer.TheVariants as layer
use Rattle.check_scopes.specs.declared.names.Meaning.{Meaning}
use Rattle.check_scopes.specs.declared.names.MeaningKind.{MeaningKind}
use Rattle.check_scopes.specs.declared.names.MeaningKind.TheVariants as kind
use Rattle.check_scopes.specs.Scopes.{Name}
use Rattle.check_types.specs.Shapes.{over}
use Rattle.tick_tree.specs.Faults.{Checked, ◌>>=◌ as ◌>>>=◌}
use Rattle.typed_tree.specs.declared.expression.CaptureKind.{CaptureKind}
use Rattle.typed_tree.specs.declared.expression.CaptureKind.TheVariants as capture
use Rattle.typed_tree.specs.declared.expression.CapturedWord.TheVariants as word
use Rattle.typed_tree.specs.declared.expression.Expr.TheVariants as ex
use Rattle.check_operands.specs.declared.operand.Operand.{Operand}
use Rattle.check_operands.specs.declared.operand.Place.{Place}
use Rattle.check_operands.specs.declared.operand.Place.TheVariants as place
use Rattle.check_operands.specs.declared.operand.Value.{Value}
use Rattle.check_operands.specs.Operands.{value_of, made}
use Rattle.check_operands.specs.Stages as stages
use Rattle.check_operands.specs.Places as places
use Rattle.check_rules.specs.declared.frame.Home.{Home}
use Rattle.check_rules.specs.Ticks as ticks
use Rattle.check_rules.specs.Walks.{Rule, ◌>>=◌, lift}
use Rattle.check_rules.specs.declared.state.Stage.{Stage}
use Rattle.check_rules.specs.declared.state.Stage.TheVariants as stage
use Rattle.check_rules.specs.declared.state.State.{State}
use Rattle.check_rules.specs.Names.{addressed}
use Rattle.check_rules.specs.Productions as productions
use Rattle.wellformed.specs.Places.{Part, Around, captured, is_word}
use Rattle.wellformed.proofs.Equations.{part_captured}
use Rattle.wf_nodes.specs.Right.{Stands, RightPlace, Unless}
use Rattle.wf_nodes.specs.Used.{UsedPlace}
use Rattle.wf_nodes.proofs.NodeValues.{nodes_use}
use Rattle.wf_nodes.proofs.Declared.{types_use}
use Rattle.wf_nodes.proofs.NodeScopes.{frame_stands}
use Rattle.wf_walk.specs.Kept.{Keeps, IsKeeping}
use Rattle.wf_walk.specs.Known.{Blocks, IsVariable, IsParameter, Means, Small, Known}
use Rattle.wf_walk.specs.Steps.{Round, at, Agrees, EachCapture, Did}
use Rattle.wf_walk.specs.Good.{Good, PlainStage, Plain}
use Rattle.wf_walk.proofs.Fronts.{no_rest, starts_refl}
use Rattle.wf_walk.proofs.Keeps.{keeps_refl, keeps_more, keeps_dollar}
use Rattle.wf_walk.proofs.Plain.{plain_refl, plain_did_by}
use Rattle.wf_walk.proofs.Knowing.{each_scope}
use Rattle.wf_walk.proofs.Names.{gives_keeps, addressed_keeps, captured_keeps}
use Rattle.wf_walk.proofs.Walks.{ran, ok_same}
use Rattle.wf_walk.proofs.Captures.{catch_did, Gives, given}
use Rattle.wf_walk.proofs.ExpressionNodes.{CapturedStands, good_dollar, good_address}
use Rattle.wf_walk.proofs.Steps.{Goes, did_join, by_premise, decides}

-- ---- from a tick to under `$`, and back

variable_dollar : (b : Blocks) (s : State) (n : ℕ) (h : Option Home) → IsVariable stage.Tick b s n h →
    IsVariable stage.Dollar b s n h
variable_dollar b s n None x = x
variable_dollar b s n (Some h) x = x

variable_tick : (b : Blocks) (s : State) (n : ℕ) (h : Option Home) → IsVariable stage.Dollar b s n h →
    IsVariable stage.Tick b s n h
variable_tick b s n None x = x
variable_tick b s n (Some h) x = x

parameter_dollar : (b : Blocks) (s : State) (n : ℕ) (h : Option Home) → IsParameter stage.Tick b s n h →
    IsParameter stage.Dollar b s n h
parameter_dollar b s n None x = x
parameter_dollar b s n (Some h) x = x

parameter_tick : (b : Blocks) (s : State) (n : ℕ) (h : Option Home) → IsParameter stage.Dollar b s n h →
    IsParameter stage.Tick b s n h
parameter_tick b s n None x = x
parameter_tick b s n (Some h) x = x

means_dollar : (many : List ℕ) (b : Blocks) (s : State) (name : Name) (m : Meaning) (k : MeaningKind) →
    Means many stage.Tick b s name m k → Means many stage.Dollar b s name m k
means_dollar many b s name m kind.Variable x = (variable_dollar b s m.index _ x.0, x.1)
means_dollar many b s name m kind.Parameter x = (parameter_dollar b s m.index _ x.0, x.1)
means_dollar many b s name m kind.Global x = x
means_dollar many b s name m kind.Function x = x
means_dollar many b s name m kind.Library x = x

means_tick : (many : List ℕ) (b : Blocks) (s : State) (name : Name) (m : Meaning) (k : MeaningKind) →
    Means many stage.Dollar b s name m k → Means many stage.Tick b s name m k
means_tick many b s name m kind.Variable x = (variable_tick b s m.index _ x.0, x.1)
means_tick many b s name m kind.Parameter x = (parameter_tick b s m.index _ x.0, x.1)
means_tick many b s name m kind.Global x = x
means_tick many b s name m kind.Function x = x
means_tick many b s name m kind.Library x = x

small_tick : (s : State) → Small stage.Dollar s → Small stage.Tick s
small_tick s x = record { homes = x.homes; object = x.object; ticks = x.ticks; tick = x.tick }

small_dollar : (s : State) → Small stage.Tick s → Small stage.Dollar s
small_dollar s x = record { homes = x.homes; object = x.object; ticks = x.ticks; tick = x.tick }

module _ {many : List ℕ} {b : Blocks} {ks : List (List CaptureKind)} {s : State} where
  known_dollar : Known many stage.Tick b ks s → Known many stage.Dollar b ks s
  known_dollar known small =
      let x = known (small_tick s small) in
      record {
        names = each_scope (λ n m. Means many stage.Tick b s n m m.kind)
            (λ n m. Means many stage.Dollar b s n m m.kind) (λ n m h. means_dollar many b s n m m.kind h) s.scopes
            x.names;
        ticks = x.ticks;
        object = x.object;
      }

  known_tick : Known many stage.Dollar b ks s → Known many stage.Tick b ks s
  known_tick known small =
      let x = known (small_dollar s small) in
      record {
        names = each_scope (λ n m. Means many stage.Dollar b s n m m.kind)
            (λ n m. Means many stage.Tick b s n m m.kind) (λ n m h. means_tick many b s n m m.kind h) s.scopes x.names;
        ticks = x.ticks;
        object = x.object;
      }

  agrees_dollar : {r : Round} → Agrees many stage.Tick b ks s r → Agrees many stage.Dollar b ks s r
  agrees_dollar a = record {
    small = small_dollar s a.small;
    visible = a.visible;
    object = a.object;
    is_function =
        a.is_function;
    functions = a.functions;
    ticks = a.ticks;
    in_tick = a.in_tick;
  }

  agrees_tick : {r : Round} → Agrees many stage.Dollar b ks s r → Agrees many stage.Tick b ks s r
  agrees_tick a = record {
    small = small_tick s a.small;
    visible = a.visible;
    object = a.object;
    is_function =
        a.is_function;
    functions = a.functions;
    ticks = a.ticks;
    in_tick = a.in_tick;
  }

-- what a step under `$` did, it did in the tick
pub did_dollar : {many : List ℕ} {b : Blocks} {ks : List (List CaptureKind)} {s new : State} (P : Round → Type 0) →
    Keeps stage.Dollar s new → Did many stage.Dollar b ks s new P → Did many stage.Tick b ks s new P
did_dollar {s = s} {new} P k d = record {
  more = d.more;
  known = known_tick d.known;
  back = λ r a. agrees_tick (d.back r (agrees_dollar a));
  ticks = λ r a. d.ticks r (agrees_dollar a);
  captures = λ r a more. subst (λ es. EachCapture r.function es) (sym (no_rest k.at.1 more)) tt;
  stands = λ r a. d.stands r (agrees_dollar a);
}

-- ---- `$`

captured_word : (a : Around) (i : ℕ) → captured (is_word word.Dollar) i a ≡ true → Stands a (ex.Captured word.Dollar i)
captured_word a i h = ap (λ (p : Part). p.stands a) (part_captured word.Dollar i) ∙ h

module _ {many : List ℕ} {b : Blocks} {ks : List (List CaptureKind)} {s : State} (known : Known many stage.Tick b ks s)
  where
    dollar_by_did : (v : Value) → ((r : Round) → Agrees many stage.Tick b ks s r → CapturedStands r.function v) →
        Gives many stage.Tick b ks s (productions.dollar_by v s)
    dollar_by_did v h =
        catch_did {k = capture.Dollar} {e = v.code}
        (λ r. Good r.tick (made (ex.Captured word.Dollar (ticks.place s.ticks)) v.ctype))
        (record {
          tables = record {
            scopes = refl;
            result = refl;
            homes = refl;
            nodes = refl;
            object = refl;
            labels = refl;
            functions = refl;
            image = record { end = refl; globals = refl; at = refl };
          };
          tick = record { inner = refl; ticks = refl };
          captures = refl;
        })
        known (λ r a. record { stands = (h r a).code; used = (h r a).captured.code })
        (λ r a f. (
          captured_word r.tick (ticks.place s.ticks) (f (is_word word.Dollar) refl),
          nodes_use.used v.ctype (ex.Captured word.Dollar (ticks.place s.ticks))
              (nodes_use.captured word.Dollar (ticks.place s.ticks)) (h r a).captured.type,
        ))

    dollar_by_rule : (c : Checked Value) (x : Operand) (new : State) →
        ((r : Round) → Agrees many stage.Tick b ks s r → Unless (CapturedStands r.function) c) →
        ◌≡◌ {A = Checked (Operand × State)} (c >>>= (λ v. Ok (productions.dollar_by v s))) (Ok (x, new)) →
        Did many stage.Tick b ks s new (λ r. Good r.tick x)
    dollar_by_rule (Ok v) x new h e = given (productions.dollar_by v s) (dollar_by_did v h) e
    dollar_by_rule (Err f) x new h e = cc

    dollar_node_did : (line : ℕ) (o x : Operand) (new : State) →
        ((r : Round) → Agrees many stage.Tick b ks s r → Good r.function o) →
        productions.dollar_node line o s ≡ Ok (x, new) → Did many stage.Tick b ks s new (λ r. Good r.tick x)
    unfolding productions.dollar_node
    dollar_node_did line o x new h e =
        dollar_by_rule (stages.dollar line (value_of o)) x new (λ r a. good_dollar r.function line o (h r a)) e

rule_keeps : (c : Checked Value) (s new : State) (x : Operand) →
    ◌≡◌ {A = Checked (Operand × State)} (c >>>= (λ v. Ok (productions.dollar_by v s))) (Ok (x, new)) →
    Keeps stage.Tick s new
rule_keeps (Ok v) s new x e =
    gives_keeps stage.Tick s new (productions.dollar_by v s) x e (captured_keeps capture.Dollar v.code s)
rule_keeps (Err f) s new x e = cc

dollar_node_keeps : (line : ℕ) (o : Operand) → IsKeeping stage.Tick (productions.dollar_node line o)
unfolding productions.dollar_node
dollar_node_keeps line o s new x e = rule_keeps (stages.dollar line (value_of o)) s new x e

-- `$`, in a tick
pub dollar_goes : {many : List ℕ} (line : ℕ) (p : Rule State Operand) →
    Goes many stage.Dollar (λ r o. Good r.function o) p →
    Goes many stage.Tick (λ r o. Good r.tick o) (p >>= productions.dollar_node line)
dollar_goes {many} line p h = record {
  keeps = λ s new x e.
      let w = ran p (productions.dollar_node line) s x new e in
      keeps_more (keeps_dollar (h.keeps s w.state w.value w.first))
      (dollar_node_keeps line w.value w.state new x w.next);
  does = λ b ks s new x known e.
      let w = ran p (productions.dollar_node line) s x new e in
      let k = h.keeps s w.state w.value w.first in
      let d = did_dollar (λ r. Good r.function w.value) k (h.does b ks s w.state w.value (known_dollar known) w.first)
      in
      did_join (λ r. Good r.function w.value) (λ r. Good r.tick x) (keeps_dollar k)
      (dollar_node_keeps line w.value w.state new x w.next) d
      (dollar_node_did d.known line w.value x new d.stands w.next);
}

-- ---- `&`

marked_stage : (g : Stage) (n : ℕ) (s : State) → PlainStage g s (addressed n s)
marked_stage stage.Function n s = refl
marked_stage stage.Tick n s =
    (record { inner = refl; ticks = refl }, λ more a. subst (λ es. EachCapture a es) (sym (no_rest refl more)) tt)
marked_stage stage.Dollar n s = (record { inner = refl; ticks = refl }, refl)

marked_plain : (g : Stage) (n : ℕ) (s : State) → Plain g s (addressed n s)
marked_plain g n s = record {
  tables = record {
    scopes = refl;
    result = refl;
    homes = refl;
    nodes = refl;
    object = refl;
    labels = refl;
    functions =
        refl;
    image = record { end = refl; globals = refl; at = refl };
  };
  captures = starts_refl s.ticks.captures;
  at = marked_stage g n s;
}

-- a step that answers this operand and leaves this state
answered : {many : List ℕ} {g : Stage} {b : Blocks} {ks : List (List CaptureKind)} {s new : State} {x : Operand}
    (P : Round → Operand → Type 0) (p : Operand × State) → Did many g b ks s p.1 (λ r. P r p.0) →
    ◌≡◌ {A = Checked (Operand × State)} (Ok p) (Ok (x, new)) → Did many g b ks s new (λ r. P r x)
answered {many} {g} {b} {ks} {s} {new} {x} P p d e =
    subst (λ q. Did many g b ks s q.1 (λ r. P r q.0)) (ok_same p (x, new) e) d

abbrev Names : Place → CType → Round → Operand → Type 0
Names p t r o = RightPlace r.function p t → UsedPlace p t → Good r.function o

module _ {many : List ℕ} {g : Stage} {b : Blocks} {ks : List (List CaptureKind)} {s : State}
    (known : Known many g b ks s) where
  address_by_did : (line : ℕ) (t : CType) (p : Place) (x : Operand) (new : State) →
      productions.address_by line t p s ≡ Ok (x, new) → Did many g b ks s new (λ r. Names p t r x)
  address_by_did line t (place.Value v) x new e = cc
  address_by_did line t (place.Generated i) x new e = cc
  address_by_did line t (place.Function f) x new e = cc
  address_by_did line t (place.Register i) x new e =
      answered (Names (place.Register i) t) (made (ex.Frame 0) (over layer.Pointer t), addressed i s)
      (plain_did_by (λ r. Names (place.Register i) t r (made (ex.Frame 0) (over layer.Pointer t))) (marked_plain g i s)
      known
      (λ r a h k. (
        frame_stands r.function 0 a.is_function (le-leb 0 r.function.object (omega arith)) refl,
        nodes_use.used (over layer.Pointer t) (ex.Frame 0) (nodes_use.frame 0) (types_use.layer layer.Pointer t),
      ))) e
  address_by_did line t (place.Memory v) x new e =
      answered (Names (place.Memory v) t) (made v (over layer.Pointer t), s)
      (plain_did_by (λ r. Names (place.Memory v) t r (made v (over layer.Pointer t))) (plain_refl g s) known
      (λ r a h k. (h, nodes_use.used (over layer.Pointer t) v k.address (types_use.layer layer.Pointer t)))) e

address_by_keeps : (g : Stage) (line : ℕ) (t : CType) (p : Place) → IsKeeping g (productions.address_by line t p)
address_by_keeps g line t (place.Value v) s new x e = cc
address_by_keeps g line t (place.Generated i) s new x e = cc
address_by_keeps g line t (place.Function f) s new x e = cc
address_by_keeps g line t (place.Register i) s new x e =
    gives_keeps g s new (made (ex.Frame 0) (over layer.Pointer t), addressed i s) x e (addressed_keeps g i s)
address_by_keeps g line t (place.Memory v) s new x e =
    gives_keeps g s new (made v (over layer.Pointer t), s) x e (keeps_refl g s)

-- where a function runs, and under `$`
address_by_goes : {many : List ℕ} (g : Stage) (line : ℕ) (o : Operand) →
    Goes many g (λ r x. Good r.function o → Good r.function x) (productions.address_by line o.ctype o.place)
address_by_goes g line o = record {
  keeps = address_by_keeps g line o.ctype o.place;
  does = λ b ks s new x known e.
      let d = address_by_did known line o.ctype o.place x new e in
      record {
        more = d.more;
        known = d.known;
        back = d.back;
        ticks = d.ticks;
        captures = d.captures;
        stands =
            λ r a h. d.stands r a h.0 h.1;
      };
}

address_in_tick : {many : List ℕ} (line : ℕ) (o : Operand) →
    Goes many stage.Tick (λ r x. Good r.tick o → Good r.tick x) (lift (places.address line o))
address_in_tick line o = decides (λ r x. Good r.tick o → Good r.tick x) (places.address line o)
    (λ r f. by_premise (Good r.tick o) (Good r.tick) (places.address line o) (good_address r.tick line o))

pub address_goes : {many : List ℕ} (line : ℕ) (g : Stage) (o : Operand) →
    Goes many g (λ r x. Good (at g r) o → Good (at g r) x) (productions.address_node line g o)
unfolding productions.address_node
address_goes line stage.Function o = address_by_goes stage.Function line o
address_goes line stage.Tick o = address_in_tick line o
address_goes line stage.Dollar o = address_by_goes stage.Dollar line o
