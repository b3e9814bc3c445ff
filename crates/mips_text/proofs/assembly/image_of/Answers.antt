use Rattle.std.proofs.Common.{◌&&◌, IsTrue, length, arith, sym, subst}
use Rattle.std.specs.List.{list_all}
use Rattle.image_file.specs.Image.{is_in_text, is_function_in}
use Rattle.mips_text.proofs.Images.{entries_good, each_fits}
use Rattle.mips_text.proofs.assembly.image_of.Goals as goal

pub new-requires : goal.new-requires
new-requires c =
    let sound = c.requires.sound in
    record {
      each_word_fits = each_fits c.args.text.items 4294967296 (omega arith) (λ k h. omega arith);
      each_byte_fits = each_fits c.args.bytes.items 256 (omega arith) (λ k h. omega arith);
      text_is_small = omega (arith, c.requires.small);
      bytes_are_few = omega (arith, sound.bytes);
      functions_are_few = sound.few;
      entries_are_good =
          subst
          (λ e. IsTrue (is_in_text (length c.args.text.items) e && list_all (is_function_in (length c.args.text.items))
          c.args.functions.items))
          (sym c.unwrap_or.ensures)
          (entries_good (length c.args.text.items) c.args.entry c.args.functions.items c.requires.some sound.entry
          sound.functions);
    }
