-- Each step of the staged machine is one of a tale.
use Rattle.std.proofs.Common.{◌≡◌, ℕ, ◌+◌, ◌≤◌, List, Option, Some, None}
use Rattle.std.proofs.Common.{refl, sym, ap, ◌∙◌, subst, arith, flat_map, option_map}
use Rattle.std.specs.Fn.{iterate}
use Rattle.pace.specs.Pace.{Seen}
use Rattle.pace.proofs.OnWay.{AllWay}
use Rattle.history.specs.Events.{End}
use Rattle.mips_model.specs.State.{Code, Data, World}
use Rattle.mips_model.specs.State as machine
use Rattle.mips_model.specs.Steps.{step, going}
use Rattle.mips_model.specs.Laws.{at}
use Rattle.mips_model.specs.Told.{Told}
use Rattle.mips_model_laws.specs.Tales.{Tale, tell, IsCalm}
use Rattle.icode_templates_proof.specs.Moves.{behind}
use Rattle.icode_meaning.specs.State.{Frame, Log, State, Running, Zeroing, Making, Compiling, Halted, Stuck, Draft}
use Rattle.icode_meaning.specs.State.{nothing, log_of, ending_of, least_at, most_at}
use Rattle.icode_expand_proof.specs.Settings.{Setting, places_of}
use Rattle.icode_expand_proof.specs.Standing.{op_stands_at}
use Rattle.icode_expand_proof.specs.Relation as ops
use Rattle.icode_expand_proof.specs.Relation.{Holds, MemoryAgrees, Pays, StandsAt}
use Rattle.closures_proof.specs.Relation.{HasSpecifications}
use Rattle.icode_run_proof.specs.Ticking.{AreTicks, PartAgrees}
use Rattle.icode_run_proof.specs.Relation.{Base, told_of, text_of, ticks_of, functions_of, same_end, Stood, StandsFor}
use Rattle.icode_run_proof.specs.Relation.{LooksLike, Related}
use Rattle.icode_run_proof.proofs.Ticking.{PaysState}
use Rattle.icode_run_proof.proofs.Drafts.{stood_with, arena_on}
use Rattle.icode_run_proof.proofs.Lifted.{Facts, facts_of, Lifted, lifted}
use Rattle.icode_run_proof.proofs.PutPays.{PaysTo}
use Rattle.icode_run_proof.proofs.Steps.{with_made, history_with}

-- what a tale does for a step
pub record Stepped (b : Base) (log : Log) (a : State) (t : Tale) : Type 0 where
  pub count : ℕ
  pub low : least_at a ≤ log.least + count
  pub high : log.most + count ≤ most_at a
  pub related : Related b a (iterate tell count t)
  pub calm : AllWay tell IsCalm count t

-- ---- what is seen

pub looks : (b : Base) (c : Code) (a : State) (w : World) (t : Tale) → ending_of a ≡ w.ending → StandsFor b c a w t
    → LooksLike b a t
looks b c a w t e h =
    ap (λ (l : List Told). let x : Seen Told End =
    record { history = l; ending = option_same (ending_of a) } in x) (sym h.told_is)
    ∙ ap (λ (o : Option End). let x : Seen Told End = record { history = t.told; ending = o } in x)
    (is_same (ending_of a) ∙ e ∙ sym (ap (λ (v : World). v.ending) h.world_is))
  where
    option_same : Option End → Option End
    option_same o = option_map same_end o

    is_same : (o : Option End) → option_map same_end o ≡ o
    is_same None = refl
    is_same (Some x) = refl

module _ (b : Base) (are : AreTicks (ticks_of b)) (c : Code) (s : Setting) (stood : Stood b c s) (t : Tale)
    (log : Log) (at_op recent : ℕ) (d : Data) (m : MemoryAgrees s log.shared log.active d)
    (at_d : t.world ≡ going (behind c at_op recent d)) (told : t.told ≡ flat_map (told_of b) log.shared.history) where
  abbrev from : machine.State
  from = behind s.code at_op recent d

  lift : (a : State) (n : ℕ) → Facts s a (iterate step n (going from))
      → Lifted b c a (iterate step n (going from)) n t
  lift a n facts =
      lifted b c s stood at_op recent d log.shared.history m.table m.history m.making t at_d told a n facts

  -- the run is over, or it is stuck
  over : (a : State) → (p : Pays s a log from) → LooksLike b a (iterate tell p.count t)
  over a p =
      let facts = facts_of s a (iterate step p.count (going from)) p.related in
      let l = lift a p.count facts in
      looks b c a (iterate step p.count (going from)) (iterate tell p.count t) facts.ending l.stands

  -- any step but those of ticks
  pub stepped : HasSpecifications (text_of b) s.made s.written → (a : State) → Pays s a log from → Stepped b log a t
  stepped has a p =
      let l = lift a p.count (facts_of s a (iterate step p.count (going from)) p.related) in
      record {
        count = p.count;
        low = p.low;
        high = p.high;
        related = by a p l.stands;
        calm = l.calm;
      }
    where
      by : (a : State) (p : Pays s a log from)
          → StandsFor b c a (iterate step p.count (going from)) (iterate tell p.count t)
          → Related b a (iterate tell p.count t)
      by (Running w arguments answer waiting log') p h = record {
        code = c;
        setting = s;
        stood = stood;
        specifications = has;
        world = iterate step p.count (going from);
        related = p.related;
        stands = h;
      }
      by (Zeroing more address w waiting log') p h = record {
        code = c;
        setting = s;
        stood = stood;
        specifications = has;
        world = iterate step p.count (going from);
        related = p.related;
        stands = h;
      }
      by (Making draft w waiting log') p h = absurd p.related
      by (Compiling more syntax to w waiting log') p h = absurd p.related
      by (Halted e log') p h = over (Halted e log') p
      by (Stuck log') p h = over (Stuck log') p

  over_step : (a : State) (p : Pays s a log from) → Related b a (iterate tell p.count t) → Stepped b log a t
  over_step a p r =
      let l = lift a p.count (facts_of s a (iterate step p.count (going from)) p.related) in
      record { count = p.count; low = p.low; high = p.high; related = r; calm = l.calm }

  -- a step that made something
  module _ (w : Frame) (waiting : List Frame) (log' : Log) (Also : Data → Type 0)
      (p : PaysTo s w waiting log' log from Also) where
    abbrev s' : Setting
    s' = with_made p.written log'.shared s

    abbrev there : World
    there = going (at s.code (op_stands_at w.function (places_of s w.function) w.index) 0 p.d)

    facts_made : (a : State) → log_of a ≡ log' → ending_of a ≡ None → Facts s a (iterate step p.count (going from))
    facts_made a e none = record {
      code = ap (λ (v : World). v.state.code) p.is;
      history =
          let h = history_with s p.holds.memory.history in
          record {
            since = h.since;
            passes = h.passes;
            history_is = ap (λ (l : Log). l.shared.history) e ∙ h.history_is;
            outside_is = ap (λ (v : World). v.state.d.outside.history) p.is ∙ h.outside_is;
          };
      left = record {
        making = ap (λ (v : World). v.state.d.outside.making) p.is ∙ p.holds.memory.making.making;
        flushes = ap (λ (v : World). v.state.d.outside.flushes) p.is ∙ p.holds.memory.making.flushes;
      };
      fair = subst ops.IsFair (sym (ap (λ (v : World). v.ending) p.is)) tt;
      ending = none ∙ sym (ap (λ (v : World). v.ending) p.is);
    }

    stood' : Stood b c s'
    stood' = stood_with b c s p.written log'.shared (p.arena.bodies ∙ m.made.bodies)
        (arena_on (functions_of b) s log.shared log'.shared d p.written m.written m.made p.arena stood.arena) stood

    pub makes_step : (draft : Draft) → ((e : Data) → Also e → PartAgrees (ticks_of b) draft log'.shared e)
        → Stepped b log (Making draft w waiting log') t
    makes_step draft agrees =
        let a : State = Making draft w waiting log' in
        let l = lift a p.count (facts_made a refl refl) in
        record {
          count = p.count;
          low = p.low;
          high = p.high;
          related = record {
            code = c;
            setting = s';
            stood = stood';
            agrees = agrees p.written p.also;
            d = p.d;
            holds = p.holds;
            stands = subst (λ (v : World). StandsFor b c a v (iterate tell p.count t)) p.is l.stands;
          };
          calm = l.calm;
        }

    pub goes_step : ((e : Data) → Also e → HasSpecifications (text_of b) log'.shared e)
        → Stepped b log (Running w nothing None waiting log') t
    goes_step has =
        let a : State = Running w nothing None waiting log' in
        let l = lift a p.count (facts_made a refl refl) in
        record {
          count = p.count;
          low = p.low;
          high = p.high;
          related = record {
            code = c;
            setting = s';
            stood = stood';
            specifications = has p.written p.also;
            world = there;
            related = (
              stood'.standing,
              record {
                d = p.d;
                holds = p.holds;
                recent = 0;
                few = omega arith;
                is = refl;
              },
            );
            stands = subst (λ (v : World). StandsFor b c a v (iterate tell p.count t)) p.is l.stands;
          };
          calm = l.calm;
        }

  -- what an op of a tick comes to
  pub state_step : (a : State) → PaysState b s log from a → Stepped b log a t
  state_step (Making draft w waiting log') p =
      makes_step w waiting log' (PartAgrees (ticks_of b) draft log'.shared) p draft (λ e h. h)
  state_step (Running w arguments answer waiting log') p =
      subst (λ (f : ℕ → Option ℕ). Stepped b log (Running w f answer waiting log') t) (sym p.0)
      (subst (λ (o : Option ℕ). Stepped b log (Running w nothing o waiting log') t) (sym p.1)
      (goes_step w waiting log' (HasSpecifications (text_of b) log'.shared) p.2 (λ e h. h)))
  state_step (Halted e log') p = over_step (Halted e log') p (over (Halted e log') p)
  state_step (Stuck log') p = over_step (Stuck log') p (over (Stuck log') p)
  state_step (Zeroing more address w waiting log') p = absurd p
  state_step (Compiling more syntax to w waiting log') p = absurd p
