-- The address of a frame object pays.
use Rattle.std.proofs.Common.{◌≡◌, ℕ, ◌+◌, ◌*◌, ◌/◌, ◌%◌, ◌<◌, List, ◌++◌, Option, Some, None, refl, arith, slice_get}
use Rattle.word32.specs.Words.{difference}
use Rattle.word32.specs.Space.{update}
use Rattle.mips_model.specs.State.{Data}
use Rattle.mips_model.specs.Laws.{at}
use Rattle.icode_ops.specs.declared.op.Op.{Op}
use Rattle.icode_ops.specs.declared.op.Op.TheVariants.{FrameAddress}
use Rattle.icode_templates.specs.Templates.{object_address, out_code}
use Rattle.icode_meaning.specs.State.{Function, Frame, Log, Running, nothing}
use Rattle.icode_meaning.specs.Steps.{paid, set, address_of}
use Rattle.icode_templates_proof.specs.Spots.{KeepsSpots}
use Rattle.icode_templates_proof.proofs.Keeping.{with_registers, keeps_on, keeps_write, not_24}
use Rattle.icode_templates_proof.proofs.Templates.{finish}
use Rattle.icode_expand_proof.specs.Standing.{layout_of, op_stands_at, OpsStand}
use Rattle.icode_expand_proof.specs.Settings.{Setting, places_of, Standing}
use Rattle.icode_expand_proof.specs.Relation.{Holds, Pays}
use Rattle.icode_expand_proof.proofs.Frames.{spots}
use Rattle.icode_expand_proof.proofs.Codes.{one_stands}
use Rattle.icode_expand_proof.proofs.Writes.{defined_inside, write_pays}
use Rattle.icode_expand_proof.proofs.Clears.{first_in, first_leaves}

address_keeps : (x : ℕ) (d : Data) → KeepsSpots d (first_in (x / 65536 * 65536) x d)
address_keeps x d =
    let h = x / 65536 * 65536 in
    let d1 = with_registers (update 24 h d.registers) d in
    let d2 = with_registers (update 24 x d1.registers) d in
    keeps_on (keeps_write 24 h d not_24)
    (keeps_on (keeps_write 24 x d1 not_24) (keeps_write 24 ((x + d.registers 30) % 4294967296) d2 not_24))

module _ (s : Setting) (st : Standing s) (w : Frame) (arguments : ℕ → Option ℕ) (answer : Option ℕ)
    (waiting : List Frame) (log : Log) (d : Data) (h : Holds s w arguments answer waiting log d) (to offset : ℕ)
    (i : slice_get w.function.ops w.index ≡ Some (FrameAddress to offset)) where
  abbrev f : Function
  f = w.function

  abbrev places : List ℕ
  places = places_of s f

  abbrev a : ℕ
  a = op_stands_at f places w.index

  abbrev x : ℕ
  x = difference offset f.object

  abbrev o : Op
  o = FrameAddress to offset

  abbrev mid : Data
  mid = first_in (x / 65536 * 65536) x d

  stands : OpsStand s.code f places
  stands = (st.functions f.address f h.known).1

  address_is : mid.registers 24 ≡ address_of offset w log
  address_is = omega (arith, h.extents.frames, h.ready.objects_from)

  word : address_of offset w log < 4294967296
  word = omega arith

  pub address_pays : Pays s (Running (set to (address_of offset w log) w) nothing None waiting (paid o log)) log
      (at s.code a 0 d)
  address_pays =
      let layout = layout_of f places in
      write_pays s st w arguments answer waiting log log (at s.code a 0 d) o to (address_of offset w log) 4 6 d i refl
      refl word (omega arith) (omega arith) (omega arith) (omega arith) h
      (finish (object_address layout 24 offset ++ out_code (layout.spot to)) (object_address layout 24 offset) 3 3
      s.code
      a f.charge d d mid (layout.spot to) (address_of offset w log) refl h.ready.framed
      (spots f places to stands.suits (defined_inside s st w o to h.known i refl)) word
      (record { over = omega arith; under = omega arith }) (first_leaves x d) (address_keeps x d) address_is
      (one_stands s.code f places stands w.index o i))
