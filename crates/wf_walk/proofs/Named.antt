-- A name at each stage: where a function runs, in a tick, which captures what is of the function, and under `$`.
use Rattle.std.proofs.Common.{◌≡◌, ℕ, ◌-◌, Bool, true, false, if◌then◌else◌, List, refl, ap, ◌∙◌, Option, Some, None}
use Rattle.std.proofs.Common.{Ok}
use Rattle.c_types.specs.declared.ctype.CType.{CType}
use Rattle.check_types.specs.Shapes.{is_void, is_cspec, is_vspec, inner}
use Rattle.tick_tree.specs.Faults.{Checked}
use Rattle.typed_tree.specs.declared.expression.CaptureKind.{CaptureKind}
use Rattle.typed_tree.specs.declared.expression.CaptureKind.TheVariants as capture
use Rattle.typed_tree.specs.declared.expression.CapturedWord.TheVariants as word
use Rattle.typed_tree.specs.declared.expression.Expr.{Expr}
use Rattle.typed_tree.specs.declared.expression.Expr.TheVariants as ex
use Rattle.check_operands.specs.declared.operand.Operand.{Operand}
use Rattle.check_operands.specs.declared.operand.Place.TheVariants as place
use Rattle.check_operands.specs.Operands.{effect, made}
use Rattle.check_rules.specs.declared.frame.Home.{Home}
use Rattle.check_rules.specs.Frames.{count}
use Rattle.check_rules.specs.Ticks as ticks
use Rattle.check_rules.specs.declared.state.Stage.TheVariants as stage
use Rattle.check_rules.specs.declared.state.State.{State}
use Rattle.check_rules.specs.Names.{operand, place_by, address_by, answer_of, home_by, splice, generated, outer_object}
use Rattle.check_rules.specs.Names.{outer_variable, in_tick}
use Rattle.wellformed.specs.Places.{Part, Around, captured, is_splice, is_variable, is_word}
use Rattle.wellformed.proofs.Equations.{part_captured, part_splice}
use Rattle.wf_nodes.specs.Right.{Stands}
use Rattle.wf_nodes.proofs.NodeScopes.{const_stands}
use Rattle.wf_nodes.proofs.NodeValues.{nodes_use}
use Rattle.wf_walk.specs.Known.{Blocks, of_function, HasHome, IsVariable, IsParameter, IsObject, Known}
use Rattle.wf_walk.specs.Steps.{Round, Agrees, Did}
use Rattle.wf_walk.specs.Good.{Good}
use Rattle.wf_walk.proofs.Captures.{same_kind_refl, Caught, catch_did, Gives, given, stays}
use Rattle.wf_walk.proofs.ExpressionNames.{home_good, home_address, address_left, room_of, effect_left}
use Rattle.wf_walk.proofs.ExpressionNodes.{good_value}

-- ---- captures

captured_stands : (a : Around) (i : ℕ) → captured (is_word word.Address) i a ≡ true →
    Stands a (ex.Captured word.Address i)
captured_stands a i h = ap (λ (p : Part). p.stands a) (part_captured word.Address i) ∙ h

pub global_right : (n : ℕ) (t : CType) (a : Around) → IsObject t → Good a (operand (place.Memory (ex.Const n)) t)
global_right n t a k = (const_stands a n, record { address = nodes_use.constant n; type = k.type })

module _ {many : List ℕ} {b : Blocks} {ks : List (List CaptureKind)} {s : State} (known : Known many stage.Tick b ks s)
  where
    splice_did : (t : CType) (e : Expr) → ((r : Round) → Agrees many stage.Tick b ks s r → Caught e r) →
        Gives many stage.Tick b ks s (splice t e s)
    splice_did t e caught =
        catch_did {k = capture.Splice (answer_of (inner t))} {e = e}
        (λ r. Good r.tick (made (ex.Splice (answer_of (inner t)) (ticks.place s.ticks)) (inner t)))
        (record {
          tables = record {
            scopes = refl;
            result = refl;
            homes = refl;
            nodes = refl;
            object = refl;
            labels = refl;
            functions = refl;
            image = record { end = refl; globals = refl; at = refl };
          };
          tick = record { inner = refl; ticks = refl };
          captures = refl;
        })
        known caught
        (λ r a f. (
          ap (λ (p : Part). p.stands r.tick) (part_splice (answer_of (inner t)) (ticks.place s.ticks)) ∙
              f (is_splice (answer_of (inner t))) (same_kind_refl (capture.Splice (answer_of (inner t)))),
          nodes_use.splice (inner t) (ticks.place s.ticks),
        ))

    generated_did : (t : CType) (e : Expr) → is_void (inner t) ≡ false →
        ((r : Round) → Agrees many stage.Tick b ks s r → Caught e r) → Gives many stage.Tick b ks s (generated t e s)
    generated_did t e v caught =
        catch_did {k = capture.Variable} {e = e}
        (λ r. Good r.tick (operand (place.Generated (ticks.place s.ticks)) (inner t)))
        (record {
          tables = record {
            scopes = refl;
            result = refl;
            homes = refl;
            nodes = refl;
            object = refl;
            labels = refl;
            functions = refl;
            image = record { end = refl; globals = refl; at = refl };
          };
          tick = record { inner = refl; ticks = refl };
          captures = refl;
        })
        known caught (λ r a f. (f is_variable refl, v))

    outer_object_did : (n : ℕ) (h : Home) (t : CType) → is_void t ≡ false →
        ((r : Round) → Agrees many stage.Tick b ks s r → Caught (address_by h) r) →
        Gives many stage.Tick b ks s (outer_object n h t s)
    outer_object_did n h t v caught =
        catch_did {k = capture.Address} {e = address_by h}
        (λ r. Good r.tick (operand (place.Memory (ex.Captured word.Address (ticks.place s.ticks))) t))
        (record {
          tables = record {
            scopes = refl;
            result = refl;
            homes = refl;
            nodes = refl;
            object = refl;
            labels = refl;
            functions = refl;
            image = record { end = refl; globals = refl; at = refl };
          };
          tick = record { inner = refl; ticks = refl };
          captures = refl;
        })
        known caught
        (λ r a f. (
          captured_stands r.tick (ticks.place s.ticks) (f (is_word word.Address) refl),
          record { address = nodes_use.captured word.Address (ticks.place s.ticks); type = v },
        ))

    -- ---- a variable of the function round the tick

    value_caught : (o : Operand) → is_void o.ctype ≡ false →
        ((r : Round) → Agrees many stage.Tick b ks s r → Good r.function o) → (r : Round) →
        Agrees many stage.Tick b ks s r → Caught (effect o) r
    value_caught o v h r a = record
        { stands = (good_value r.function o (h r a)).code; used = effect_left r.function o (h r a) v }

    home_right : (n : ℕ) (h : Home) (t : CType) → HasHome (of_function stage.Tick b s) s.frame.object n h → IsObject t →
        (r : Round) → Agrees many stage.Tick b ks s r → Good r.function (operand (place_by n h) t)
    home_right n h t x k r a = home_good r.function (of_function stage.Tick b s) s.frame.object n h t (room_of a) x k

    outer_by : (c v : Bool) (n : ℕ) (h : Home) (t : CType) → is_vspec t ≡ v →
        HasHome (of_function stage.Tick b s) s.frame.object n h → IsObject t
        → Gives many stage.Tick b ks s
        (if c then splice t (effect (operand (place_by n h) t)) s else
        (if v then generated t (effect (operand (place_by n h) t)) s else outer_object n h t s))
    outer_by true v n h t e x k = splice_did t _ (value_caught (operand (place_by n h) t) k.type (home_right n h t x k))
    outer_by false true n h t e x k =
        generated_did t _ (k.specified e) (value_caught (operand (place_by n h) t) k.type (home_right n h t x k))
    outer_by false false n h t e x k =
        outer_object_did n h t k.type
        (λ r a. record {
          stands = home_address r.function (of_function stage.Tick b s) s.frame.object n h (room_of a) x;
          used = address_left h;
        })

    outer_did : (n : ℕ) (h : Home) (t : CType) → HasHome (of_function stage.Tick b s) s.frame.object n h → IsObject t →
        Gives many stage.Tick b ks s (outer_variable n h t s)
    outer_did n h t x k = outer_by (is_cspec t) (is_vspec t) n h t refl x k

    -- ---- a variable at file scope

    pub outer_global_by : (c v : Bool) (n : ℕ) (t : CType) → is_vspec t ≡ v → IsObject t
        → Gives many stage.Tick b ks s
        (if c then splice t (effect (operand (place.Memory (ex.Const n)) t)) s else
        (if v then generated t (effect (operand (place.Memory (ex.Const n)) t)) s else
        (operand (place.Memory (ex.Const n)) t, s)))
    outer_global_by true v n t e k =
        splice_did t _ (value_caught (operand (place.Memory (ex.Const n)) t) k.type
        (λ r a. global_right n t r.function k))
    outer_global_by false true n t e k =
        generated_did t _ (k.specified e)
        (value_caught (operand (place.Memory (ex.Const n)) t) k.type (λ r a. global_right n t r.function k))
    outer_global_by false false n t e k =
        stays (operand (place.Memory (ex.Const n)) t) known (λ r a. global_right n t r.tick k)

    -- ---- a variable of the tick, or of the function

    pub in_tick_did : (n : ℕ) (t : CType) (h : Option Home) (x : Operand) (new : State) →
        IsVariable stage.Tick b s n h →
        IsObject t → in_tick n t h s ≡ Ok (x, new) → Did many stage.Tick b ks s new (λ r. Good r.tick x)
    in_tick_did n t None x new y k e =
        given (operand (place.Register (n - count s.frame.homes)) t, s)
        (stays (operand (place.Register (n - count s.frame.homes)) t) known
        (λ r a. (a.in_tick.0 (n - count s.frame.homes) y, k.type))) e
    in_tick_did n t (Some h) x new y k e = given (outer_variable n h t s) (outer_did n h t y k) e

    pub tick_parameter_did : (n : ℕ) (t : CType) (h : Option Home) (x : Operand) (new : State) →
        IsParameter stage.Tick b s n h → IsObject t →
        ◌≡◌ {A = Checked (Operand × State)} (Ok (outer_variable n (home_by h) t s)) (Ok (x, new)) →
        Did many stage.Tick b ks s new (λ r. Good r.tick x)
    tick_parameter_did n t None x new y k e = cc
    tick_parameter_did n t (Some h) x new y k e = given (outer_variable n h t s) (outer_did n h t y k) e
