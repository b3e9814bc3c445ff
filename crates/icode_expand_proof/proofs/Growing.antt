-- Functions are added: what holds of the calls holds on.
use Rattle.std.proofs.Common.{◌≡◌, ℕ, ◌<◌, true, List, [], ◌∷◌, length, Option, Some, sym, ap, ◌∙◌, subst}
use Rattle.mips_model.specs.State.{Data}
use Rattle.icode_ops.specs.Live.{Live}
use Rattle.icode_meaning.specs.State.{Function, Frame, Log}
use Rattle.icode_templates_proof.specs.Spots.{frame_word, value}
use Rattle.icode_expand_proof.specs.Frames.{FrameAgrees, CallersWait, unwound}
use Rattle.icode_expand_proof.specs.Relation.{Holds}
use Rattle.icode_expand_proof.specs.StepLaws.{GrowthKeeps}
use Rattle.icode_expand_proof.specs.Settings.{Setting, places_of, Changed, AllStay}
use Rattle.icode_expand_proof.specs.Standing.{layout_of, op_stands_at}
use Rattle.icode_expand_proof.specs.Relation.{MemoryAgrees}
use Rattle.std.proofs.Common.{Bool}

module _ (stays : ℕ → Bool) (s s' : Setting) (g : Changed stays s s') where
  same_places : (f : Function) → stays f.address ≡ true → s.program.function_at f.address ≡ Some f
      → places_of s' f ≡ places_of s f
  same_places f here known = g.places f.address f here known

  pub ready_grown : (w : Frame) (d : Data) → stays w.function.address ≡ true →
      s.program.function_at w.function.address ≡ Some w.function
      → FrameAgrees s w d
      → FrameAgrees s' w d
  ready_grown w d on known h = record {
    framed = h.framed;
    agrees = subst (λ (p : List ℕ). (v : ℕ) → v < length p → Live w.function.ops v w.index → w.on v ≡ true
        → value d ((layout_of w.function p).spot v) ≡ w.values v) (sym (same_places w.function on known)) h.agrees;
    words = h.words;
    reach = h.reach;
    stand = h.stand;
    global = h.global;
    objects_from = h.objects_from;
    objects_to = h.objects_to;
  }

  pub stacked_grown : (ws : List Frame) (d : Data) (address : ℕ) → AllStay stays ws → CallersWait s ws d address
      → CallersWait s' ws d address
  stacked_grown [] d address on h = h ∙ sym g.exit
  stacked_grown (w ∷ ws) d address on h =
      let here = h.0 in
      let e = same_places w.function on.0 here.known in (
        record {
          address_is = here.address_is ∙ ap (λ (p : List ℕ). op_stands_at w.function p w.index) (sym e);
          known = g.functions w.function.address w.function on.0 here.known;
          ready = ready_grown w d on.0 here.known here.ready;
        },
        subst (λ (p : List ℕ). CallersWait s' ws (unwound w.function p d) (frame_word d 80)) (sym e)
            (stacked_grown ws (unwound w.function (places_of s w.function) d) (frame_word d 80) on.1 h.1),
      )

  pub holds_grown : (w : Frame) (arguments : ℕ → Option ℕ) (answer : Option ℕ) (waiting : List Frame) (log : Log)
      (d : Data) → AllStay stays (w ∷ waiting) → MemoryAgrees s' log.shared log.active d
      → Holds s w arguments answer waiting log d → Holds s' w arguments answer waiting log d
  holds_grown w arguments answer waiting log d on memory h =
      let e = same_places w.function on.0 h.known in
      record {
        known = g.functions w.function.address w.function on.0 h.known;
        ready = ready_grown w d on.0 h.known h.ready;
        memory = memory;
        extents = h.extents;
        passed = h.passed;
        answered = h.answered;
        waits = subst (λ (p : List ℕ). CallersWait s' waiting (unwound w.function p d) (frame_word d 80)) (sym e)
            (stacked_grown waiting (unwound w.function (places_of s w.function) d) (frame_word d 80) on.1 h.waits);
      }

pub growth_keeps : GrowthKeeps
growth_keeps stays s s' g w arguments answer waiting log d on memory h =
    holds_grown stays s s' g w arguments answer waiting log d on memory h
