use Rattle.std.proofs.Common.{◌≡◌, drop, map}
use Rattle.asm_words.specs.Registers as spec
use Rattle.asm_words.proofs.register.place.Given as goal

abbrev pub invariant-loop-entry : goal.invariant-loop-entry
invariant-loop-entry l = record {
  counted : l.at ≡ l.entry-index;
  same :
      spec.place_from l.entry-index (map (λ k. k.now) (drop l.entry-index l.names)) l.name
      ≡ spec.place_from 0 (map (λ k. k.now) l.names) l.name;
}
