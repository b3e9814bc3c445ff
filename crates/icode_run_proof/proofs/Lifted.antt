-- What a world does on the setting's code a tale does on the machine's, and tells what the history says.
use Rattle.std.proofs.Common.{◌≡◌, ℕ, List, [], ◌∷◌, ◌++◌, map, None, refl, sym, ap, ◌∙◌, subst}
use Rattle.std.proofs.Common.{append_assoc, drop, flat_map}
use Rattle.std.specs.Fn.{iterate}
use Rattle.std.proofs.lemmas.Grind.{flat_map-append}
use Rattle.pace.proofs.OnWay.{AllWay}
use Rattle.history.specs.Events.{Item, Out, In, End}
use Rattle.history.specs.Events as item
use Rattle.mips_model.specs.State.{Code, Data, State, World}
use Rattle.mips_model.specs.Steps.{step, going}
use Rattle.mips_model.specs.Told.{Told, Passed, told, passed}
use Rattle.mips_model.proofs.Told.{told_is_history}
use Rattle.mips_model_laws.specs.Laws.{only}
use Rattle.mips_model_laws.specs.Tales.{Tale, tell, IsCalm}
use Rattle.mips_model_laws.specs.Clean.{IsUnspoiled}
use Rattle.mips_model_laws.proofs.Clean.{run_is}
use Rattle.mips_model_laws.proofs.Seam.{world_of_tale, unspoiled_tale}
use Rattle.icode_templates_proof.specs.Moves.{behind}
use Rattle.icode_meaning.specs.State as staged
use Rattle.icode_meaning.specs.State.{Running, Zeroing, Making, Compiling, Halted, Stuck, log_of, ending_of}
use Rattle.icode_expand_proof.specs.Settings.{Setting, Published}
use Rattle.icode_expand_proof.specs.Relation as ops
use Rattle.icode_expand_proof.specs.Relation.{AllPass, HistoryAgrees, HasLeft, IsFair, passing}
use Rattle.icode_expand_proof.proofs.Memory.{history_as, left_as}
use Rattle.icode_run_proof.specs.Relation.{Base, told_of, is_inside, Stood, StandsFor}
use Rattle.icode_run_proof.proofs.Carried.{on_code, Carried, carried}
use Rattle.icode_run_proof.proofs.Tales.{tale_told}
use Rattle.icode_run_proof.proofs.Present.{no_entries}

-- ---- what is told

cancel : (xs ys zs : List Item) → xs ++ ys ≡ xs ++ zs → ys ≡ zs
cancel [] ys zs e = e
cancel (x ∷ xs) ys zs e = cancel xs ys zs (ap (λ (l : List Item). drop 1 l) e)

back_passes : (xs ys : List Item) → AllPass (xs ++ ys) → AllPass ys
back_passes [] ys h = h
back_passes (Out x ∷ xs) ys h = back_passes xs ys h
back_passes (In x ∷ xs) ys h = back_passes xs ys h
back_passes (item.Made f syntax ∷ xs) ys h = absurd h
back_passes (item.Entered f ∷ xs) ys h = absurd h

passed_told : (b : Base) (xs : List Item) → AllPass xs → map Passed xs ≡ flat_map (told_of b) xs
passed_told b [] h = refl
passed_told b (Out x ∷ xs) h = ap (λ (l : List Told). Passed (Out x) ∷ l) (passed_told b xs h)
passed_told b (In x ∷ xs) h = ap (λ (l : List Told). Passed (In x) ∷ l) (passed_told b xs h)
passed_told b (item.Made f syntax ∷ xs) h = absurd h
passed_told b (item.Entered f ∷ xs) h = absurd h

-- a run that tells what passed tells what the history says
pub tale_on : (b : Base) (s : Setting) (h0 h1 : List Item) (n : ℕ) (t : Tale) (y : State)
    → t.world ≡ going y → t.told ≡ flat_map (told_of b) h0 → HistoryAgrees s h0 y.d.outside.history
    → HistoryAgrees s h1 (iterate step n (going y)).state.d.outside.history
    → told n (going y) ≡ map Passed (passed (told n (going y)))
    → (iterate tell n t).told ≡ flat_map (told_of b) h1
tale_on b s h0 h1 n t y at_y told_0 a0 a1 plain =
    let p = passed (told n (going y)) in
    let out : y.d.outside.history ++ p ≡ (iterate step n (going y)).state.d.outside.history =
    told_is_history n (going y) ∙ ap (λ (w : World). w.state.d.outside.history) (run_is n (going y)) in
    let all : passing s.history ++ a1.since ≡ passing s.history ++ (a0.since ++ p) =
    sym a1.outside_is ∙ sym out ∙ ap (λ (l : List Item). l ++ p) a0.outside_is
    ∙ append_assoc (passing s.history) a0.since p in
    let more = cancel (passing s.history) a1.since (a0.since ++ p) all in
    let pass : AllPass p = back_passes a0.since p (subst AllPass more a1.passes) in
    let whole : h1 ≡ h0 ++ p =
    a1.history_is ∙ ap (λ (l : List Item). s.history ++ l) more ∙ sym (append_assoc s.history a0.since p)
    ∙ ap (λ (l : List Item). l ++ p) (sym a0.history_is) in
    tale_told n t
    ∙ ap (λ (l : List Told). l ++ told n t.world) told_0
    ∙ ap (λ (w : World). flat_map (told_of b) h0 ++ told n w) at_y
    ∙ ap (λ (l : List Told). flat_map (told_of b) h0 ++ l) (plain ∙ passed_told b p pass)
    ∙ sym (flat_map-append (told_of b) h0 p)
    ∙ ap (flat_map (told_of b)) (sym whole)

-- ---- what is so of a world that is related to a state

pub record Facts (s : Setting) (a : staged.State) (w : World) : Type 0 where
  pub code : w.state.code ≡ s.code
  pub history : HistoryAgrees s (log_of a).shared.history w.state.d.outside.history
  pub left : HasLeft s w.state.d.outside
  pub fair : IsFair w.ending
  pub ending : ending_of a ≡ w.ending

pub going_facts : (s : Setting) (a : staged.State) (w : World) (x : State) → w ≡ going x → ending_of a ≡ None
    → x.code ≡ s.code → HistoryAgrees s (log_of a).shared.history x.d.outside.history → HasLeft s x.d.outside
    → Facts s a w
going_facts s a w x e none code history left = record {
  code = ap (λ (v : World). v.state.code) e ∙ code;
  history = history_as s refl (sym (ap (λ (v : World). v.state.d.outside.history) e)) history;
  left = left_as s (sym (ap (λ (v : World). v.state.d.outside) e)) left;
  fair = subst IsFair (sym (ap (λ (v : World). v.ending) e)) tt;
  ending = none ∙ sym (ap (λ (v : World). v.ending) e);
}

over_facts : (s : Setting) (a : staged.State) (w : World) → ops.LooksLike s a w → Facts s a w
over_facts s a w r = record {
  code = r.code;
  history = r.history;
  left = r.making;
  fair = subst IsFair r.ending r.fair;
  ending = r.ending;
}

pub facts_of : (s : Setting) (a : staged.State) (w : World) → ops.Related s a w → Facts s a w
facts_of s (Running v arguments answer waiting log) w r =
    going_facts s (Running v arguments answer waiting log) w _ r.1.is refl refl r.1.holds.memory.history
    r.1.holds.memory.making
facts_of s (Zeroing more address v waiting log) w r =
    going_facts s (Zeroing more address v waiting log) w _ r.1.is refl refl r.1.holds.memory.history
    r.1.holds.memory.making
facts_of s (Making draft v waiting log) w r = absurd r
facts_of s (Compiling more syntax to v waiting log) w r = absurd r
facts_of s (Halted e log) w r = over_facts s (Halted e log) w r
facts_of s (Stuck log) w r = over_facts s (Stuck log) w r

-- ---- so a tale does

pub record Lifted (b : Base) (c : Code) (a : staged.State) (w : World) (n : ℕ) (t : Tale) : Type 0 where
  pub stands : StandsFor b c a w (iterate tell n t)
  pub calm : AllWay tell IsCalm n t

pub lifted : (b : Base) (c : Code) (s : Setting) → Stood b c s → (at_op recent : ℕ) (d : Data) (h0 : List Item)
    → Published s.program d.table → HistoryAgrees s h0 d.outside.history → HasLeft s d.outside
    → (t : Tale) → t.world ≡ going (behind c at_op recent d) → t.told ≡ flat_map (told_of b) h0
    → (a : staged.State) (n : ℕ) → Facts s a (iterate step n (going (behind s.code at_op recent d)))
    → Lifted b c a (iterate step n (going (behind s.code at_op recent d))) n t
lifted b c s stood at_op recent d h0 rows history left t at_y told_0 a n facts =
    let w = iterate step n (going (behind s.code at_op recent d)) in
    let y = behind c at_op recent d in
    let same : iterate step n (going (behind (only (is_inside s.made.bodies) c) at_op recent d)) ≡ w =
    ap (λ (k : Code). iterate step n (going (behind k at_op recent d))) (sym stood.code_is) in
    let r : Carried c n y w = carried (is_inside s.made.bodies) c at_op recent n d w same (facts.code ∙ stood.code_is)
    (facts.left.flushes ∙ sym left.flushes) (facts.left.making ∙ sym left.making) facts.fair
    (no_entries b c s stood d.table rows) in
    let world : (iterate tell n t).world ≡ on_code c w =
    world_of_tale n t ∙ ap (iterate step n) at_y ∙ r.goes in
    record {
      stands = record {
        world_is = world;
        told_is = tale_on b s h0 (log_of a).shared.history n t y at_y told_0 history
            (history_as s refl (sym (ap (λ (v : World). v.state.d.outside.history) r.goes)) facts.history) r.plain;
      };
      calm = unspoiled_tale n t (subst (IsUnspoiled n) (sym at_y) r.unspoiled);
    }
