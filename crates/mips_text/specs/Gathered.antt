-- The image of what the lines of a text gave.
use Rattle.std.specs.Prelude.{unwrap_or}
use Rattle.image_file.specs.Image.{ImageParts, image_of}
use Rattle.asm_passes.specs.Parts.{Gathered}
use Rattle.word32.specs.declared.map.TheConstants.{START}

abbrev pub image_in : Gathered → ImageParts
image_in g = image_of (unwrap_or g.entry START) g.text g.bytes g.functions
