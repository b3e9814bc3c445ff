-- The definitions computed, row by row, against the words of the design of this code generator, which were written down
-- apart from the definitions: each row of instructions is what stands there. An edit of a definition breaks its rows.
use Rattle.std.specs.Prelude.{◌≡◌, true, false, [], ◌∷◌, refl}
use Rattle.mips_assembly.specs.Assembly.{addu, subu, sltu, sll, addiu, ori, lui, lw, sw, beq, jr, trap}
use Rattle.icode_templates.specs.Frames.{prologue, epilogue}

prologue-plain-unsaved-static : prologue 1024 0 ([]) false ≡ lui 1 0 ∷ ori 1 1 1024 ∷ subu 24 29 1 ∷ lui 25 32512 ∷ sltu
    25 24 25 ∷ beq 25 0 2 ∷ sll 0 0 0 ∷ trap 20 ∷ addu 29 24 0 ∷ sw 31 80 29 ∷ []
prologue-plain-unsaved-static = refl

epilogue-plain-unsaved-static : epilogue 1024 0 ([]) false ≡ lw 31 80 29 ∷ lui 1 0 ∷ ori 1 1 1024 ∷ addu 29 29 1 ∷ jr 31
    ∷ sll 0 0 0 ∷ []
epilogue-plain-unsaved-static = refl

prologue-objects-unsaved-static : prologue 1024 32 ([]) false ≡ lui 1 0 ∷ ori 1 1 1024 ∷ subu 24 29 1 ∷ lui 25 32512 ∷
    sltu 25 24 25 ∷ beq 25 0 2 ∷ sll 0 0 0 ∷ trap 20 ∷ addu 29 24 0 ∷ sw 31 80 29 ∷ lui 24 0 ∷ ori 24 24 32 ∷ addu 30 30
    24 ∷ lui 24 4352 ∷ sltu 25 24 30 ∷ beq 25 0 2 ∷ sll 0 0 0 ∷ trap 21 ∷ []
prologue-objects-unsaved-static = refl

epilogue-objects-unsaved-static : epilogue 1024 32 ([]) false ≡ lw 31 80 29 ∷ lui 24 0 ∷ ori 24 24 32 ∷ subu 30 30 24 ∷
    lui 1 0 ∷ ori 1 1 1024 ∷ addu 29 29 1 ∷ jr 31 ∷ sll 0 0 0 ∷ []
epilogue-objects-unsaved-static = refl

prologue-plain-unsaved-compiled : prologue 1024 0 ([]) true ≡ lui 1 0 ∷ ori 1 1 1024 ∷ subu 24 29 1 ∷ lui 25 32512 ∷
    sltu 25 24 25 ∷ beq 25 0 2 ∷ sll 0 0 0 ∷ trap 20 ∷ addu 29 24 0 ∷ sw 31 80 29 ∷ lw 25 65500 28 ∷ sll 0 0 0 ∷ addiu
    25
    25 1 ∷ sw 25 65500 28 ∷ []
prologue-plain-unsaved-compiled = refl

epilogue-plain-unsaved-compiled : epilogue 1024 0 ([]) true ≡ lw 25 65500 28 ∷ sll 0 0 0 ∷ addiu 25 25 65535 ∷ sw 25
    65500 28 ∷ lw 31 80 29 ∷ lui 1 0 ∷ ori 1 1 1024 ∷ addu 29 29 1 ∷ jr 31 ∷ sll 0 0 0 ∷ []
epilogue-plain-unsaved-compiled = refl

prologue-plain-saved-static : prologue 1024 0 (0 ∷ 11 ∷ []) false ≡ lui 1 0 ∷ ori 1 1 1024 ∷ subu 24 29 1 ∷ lui 25 32512
    ∷ sltu 25 24 25 ∷ beq 25 0 2 ∷ sll 0 0 0 ∷ trap 20 ∷ addu 29 24 0 ∷ sw 31 80 29 ∷ sw 16 32 29 ∷ sw 11 76 29 ∷ []
prologue-plain-saved-static = refl

epilogue-plain-saved-static : epilogue 1024 0 (0 ∷ 11 ∷ []) false ≡ lw 16 32 29 ∷ lw 11 76 29 ∷ lw 31 80 29 ∷ lui 1 0 ∷
    ori 1 1 1024 ∷ addu 29 29 1 ∷ jr 31 ∷ sll 0 0 0 ∷ []
epilogue-plain-saved-static = refl

prologue-objects-saved-static : prologue 1024 32 (0 ∷ 11 ∷ []) false ≡ lui 1 0 ∷ ori 1 1 1024 ∷ subu 24 29 1 ∷ lui 25
    32512 ∷ sltu 25 24 25 ∷ beq 25 0 2 ∷ sll 0 0 0 ∷ trap 20 ∷ addu 29 24 0 ∷ sw 31 80 29 ∷ sw 16 32 29 ∷ sw 11 76 29 ∷
    lui 24 0 ∷ ori 24 24 32 ∷ addu 30 30 24 ∷ lui 24 4352 ∷ sltu 25 24 30 ∷ beq 25 0 2 ∷ sll 0 0 0 ∷ trap 21 ∷ []
prologue-objects-saved-static = refl

epilogue-objects-saved-static : epilogue 1024 32 (0 ∷ 11 ∷ []) false ≡ lw 16 32 29 ∷ lw 11 76 29 ∷ lw 31 80 29 ∷ lui 24
    0 ∷ ori 24 24 32 ∷ subu 30 30 24 ∷ lui 1 0 ∷ ori 1 1 1024 ∷ addu 29 29 1 ∷ jr 31 ∷ sll 0 0 0 ∷ []
epilogue-objects-saved-static = refl

prologue-plain-saved-compiled : prologue 1024 0 (0 ∷ 11 ∷ []) true ≡ lui 1 0 ∷ ori 1 1 1024 ∷ subu 24 29 1 ∷ lui 25
    32512 ∷ sltu 25 24 25 ∷ beq 25 0 2 ∷ sll 0 0 0 ∷ trap 20 ∷ addu 29 24 0 ∷ sw 31 80 29 ∷ sw 16 32 29 ∷ sw 11 76 29 ∷
    lw
    25 65500 28 ∷ sll 0 0 0 ∷ addiu 25 25 1 ∷ sw 25 65500 28 ∷ []
prologue-plain-saved-compiled = refl

epilogue-plain-saved-compiled : epilogue 1024 0 (0 ∷ 11 ∷ []) true ≡ lw 25 65500 28 ∷ sll 0 0 0 ∷ addiu 25 25 65535 ∷ sw
    25 65500 28 ∷ lw 16 32 29 ∷ lw 11 76 29 ∷ lw 31 80 29 ∷ lui 1 0 ∷ ori 1 1 1024 ∷ addu 29 29 1 ∷ jr 31 ∷ sll 0 0 0 ∷
    []
epilogue-plain-saved-compiled = refl
