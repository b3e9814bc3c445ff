-- From the epilogue's first instruction to the caller's next op: the caller finds again what it is to find.
use Rattle.std.proofs.Common.{◌≡◌, ◌≢◌, ℕ, suc, ◌+◌, ◌-◌, ◌*◌, ◌/◌, ◌<◌, ◌≤◌, Bool, List, [], ◌∷◌, ◌++◌, length, refl}
use Rattle.std.proofs.Common.{sym, ap, ◌∙◌, subst, arith, if◌then◌else◌}
use Rattle.mips_encoder.specs.Addresses.{past}
use Rattle.mips_model.specs.Laws.{HasAt, at}
use Rattle.mips_model.proofs.Reach.{front, back, reaches_on}
use Rattle.mips_assembly.specs.Assembly.{lw}
use Rattle.icode_templates.specs.Frames.{save_offset, restores, free_frame, free_objects, leave_count}
use Rattle.icode_saves.specs.Places.{has, saved}
use Rattle.icode_saves.proofs.Kept.{saved_are}
use Rattle.icode_templates_proof.specs.Spots.{pointer, frame_word, Framed}
use Rattle.icode_expand_proof.specs.Frames.{place_number, unwound_register}
use Rattle.icode_expand_proof.proofs.Codes.{back_stands}
use Rattle.icode_expand_proof.proofs.Frames.{by_register, found_other}
use Rattle.icode_expand_proof.proofs.Places.{few_places}
use Rattle.icode_expand_proof.specs.FrameLaws.{FunctionsLeave}
use Rattle.icode_expand_proof.specs.Standing.{leave_at}
use Rattle.icode_expand_proof.proofs.Counts.{leave_run}
use Rattle.icode_expand_proof.proofs.Epilogue.{goes_back}
use Rattle.icode_expand_proof.proofs.Restoring.{restored_is}
use Rattle.icode_expand_proof.proofs.Saving.{restores_other}

pub leaves_function : FunctionsLeave
leaves_function f places c d st fr global lo hi =
    let kept = saved places in
    let are = saved_are places in
    let a = leave_at f places in
    let rest = restores kept ++ (lw 31 80 29 ∷ (free_objects f.object ++ free_frame f.charge)) in
    let code = back_stands c f places st in
    let n = leave_run f.compiled c a d global (front c a (leave_count f.compiled) rest code) in
    let d1 = n.after in
    let ptr : pointer d1 ≡ pointer d = n.registers 29 (omega arith) in
    let obj : d1.registers 30 ≡ d.registers 30 = n.registers 30 (omega arith) in
    let b = goes_back f.charge f.object kept c (past a (leave_count f.compiled)) d1 are.low are.rising
    (omega (arith, st.suits.room)) (subst (λ k. Framed k f.charge) (sym ptr) fr)
    (subst (λ k. f.object ≤ k) (sym obj) lo) (subst (λ k. k < 4294967296) (sym obj) hi)
    (back c a (leave_count f.compiled) rest code) in
    let word : (offset : ℕ) → frame_word d1 offset ≡ frame_word d offset =
    λ offset. ap (λ (m : ℕ → ℕ). m ((pointer d1 + offset) / 4)) n.stack ∙ ap (λ k. d.stack ((k + offset) / 4))
    ptr in
    let short = few_places 0 kept (omega arith) are.low are.rising in
    let go = subst (λ k. Rattle.mips_model.specs.Laws.Reaches (n.count + b.count) (at c a 0 d) (at c k 0 b.after))
    (word 80) (reaches_on n.reaches b.reaches) in
    let least : 6 ≤ b.count = b.some in
    record {
      after = b.after;
      runs = record {
        count = n.count + b.count;
        over = omega (arith, least);
        under = omega (arith, n.few, b.few, short);
        reaches = go;
      };
      alike = record {
        registers = λ r h. by_register (λ q. b.after.registers q ≡ unwound_register f places d q) r
            (b.pointer_is ∙ ap (λ k. k + f.charge) ptr)
            (b.objects_is ∙ ap (λ k. k - f.object) obj)
            (λ n29 n30. b.others r (omega (arith, h.0.0)) h.0.1 n29 n30 h.1 ∙ restored_is kept d1 r are.low
            ∙ ap (λ x. if has kept (place_number r) then x else d1.registers r) (word (save_offset (place_number r)))
            ∙ ap (λ x. if has kept (place_number r) then frame_word d (save_offset (place_number r)) else x)
            (n.registers r h.0.2)
            ∙ sym (found_other f places d r n29 n30));
        stack = λ k le. ap (λ (m : ℕ → ℕ). m k) (b.stack ∙ n.stack);
      };
      answer = b.others 2 (omega arith) (omega arith) (omega arith) (omega arith) (omega arith)
          ∙ restores_other kept d1 2 are.low (Rattle.std.proofs.Common.inl (omega arith)) ∙ n.registers 2 (omega arith);
      world = record {
        objects = b.world.objects ∙ n.world.objects;
        closures = b.world.closures ∙ n.world.closures;
        spec_rows = b.world.spec_rows ∙ n.world.spec_rows;
        emit_stack = b.world.emit_stack ∙ n.world.emit_stack;
        table = b.world.table ∙ n.world.table;
        outside = b.world.outside ∙ n.world.outside;
        cells = b.world.cells ∙ n.world.cells;
      };
    }
