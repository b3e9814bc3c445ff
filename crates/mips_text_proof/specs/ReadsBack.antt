-- The text of an image is assembled to this image.
use Rattle.std.specs.Prelude.{◌≡◌, Ok}
use Rattle.image_file.specs.Image.{ImageParts, IsImage}
use Rattle.asm_print.specs.Text.{text_of}
use Rattle.mips_text.specs.Assembly.{assembled}

abbrev pub ReadsBack : Type 0
ReadsBack = (i : ImageParts) → IsImage i → assembled (text_of i) ≡ Ok i
