-- What a row of the instruction table says of a word: where it is refused, where it is a hazard, and what it does else.
use Rattle.std.proofs.Common.{◌≡◌, ◌≢◌, ℕ, zero, suc, ◌+◌, ◌-◌, ◌/◌, ◌%◌, ◌<◌, ◌==◌, ◌||◌, ◌&&◌, nat_eq, not, Bool}
use Rattle.std.proofs.Common.{true, false, Option, Some, None, refl, sym, ap, ◌∙◌, arith, if◌then◌else◌}
use Rattle.std.specs.Prelude.{cond}
use Rattle.std.proofs.lemmas.Bool.Decides.{nat_tests}
use Rattle.host_edge.specs.declared.ending.MachineKind.TheVariants as kind
use Rattle.mips_encoder.specs.declared.instruction.Instr.{Instr}
use Rattle.mips_encoder.specs.declared.instruction.MemoryOp.{MemoryOp}
use Rattle.word32.specs.Words.{widened_half}
use Rattle.mips_encoder.specs.declared.instruction.Instr.TheVariants.{JumpAndLinkRegister, Memory, MoveFrom}
use Rattle.mips_encoder.specs.declared.instruction.HiLo.{HiLo}
use Rattle.mips_encoder.specs.Fields.{immediate, rd, rs, rt, shamt}
use Rattle.mips_encoder.specs.Decoded.{jump_and_link_register, memory, move_from, only}
use Rattle.mips_model.specs.State.{State, World, register, set_register}
use Rattle.mips_model.specs.Accesses.{Plain}
use Rattle.mips_model.specs.Steps.{act, apply, faulted, going, is_hazard}
use Rattle.mips_core.specs.declared.halt.Halt.{Halt}
use Rattle.mips_core.specs.declared.halt.Went.{Went}
use Rattle.mips_core.specs.declared.halt.Went.TheVariants as went
use Rattle.mips_core.specs.Core.{CoreKept, Acts, Becomes, IsClear, IsReady, accessing, acting, at, data_of, does}
use Rattle.mips_core.specs.Core.{ending_from, given, is_loaded, is_recent, moved, next_of, state_of}
use Rattle.mips_core.specs.Core.{with_recent, world_of, wrote}

-- both arguments in other words
pub both : {A B C : Type 0} (f : A → B → C) {x y : A} {u v : B} → x ≡ y → u ≡ v → f x u ≡ f y v
both f {x} {y} {u} {v} first second = ap (λ a. f a u) first ∙ ap (f y) second

-- the same world in other words
pub becomes : {aside : Bool} {w v : World} {r : Went} {pc : ℕ} {k : CoreKept} → w ≡ v → Becomes aside w r pc k →
    Becomes aside v r pc k
becomes is b = record { world = b.world ∙ is; leaves = b.leaves }

-- the world of a core that hasn't stopped
pub runs : (k : CoreKept) (pc : ℕ) → k.stopped ≡ None → world_of (at pc k) ≡ going (state_of (at pc k))
runs k pc on =
    ap (λ (o : Option Halt). let w : World = record { state = state_of (at pc k); ending = ending_from o } in w) on

pub not_ended : (o : Option Halt) → ending_from o ≡ None → o ≡ None
not_ended None is = refl
not_ended (Some halt) is = absurd cc

-- a register took a value
pub ready_behind : {aside : Bool} {pc : ℕ} {k new : CoreKept} (r v : ℕ) → IsReady aside pc k →
    world_of (at pc new) ≡ wrote r v (world_of (at pc k)) → IsReady aside pc new
ready_behind {aside} {pc} {k} {new} r v ready is = record {
  on = not_ended new.stopped (ap (λ (w : World). w.ending) is ∙ ap ending_from ready.on);
  near = ready.near;
  apart = ready.apart;
  plain = λ plain.
      let c = ready.plain plain in
      record {
        no_slot = ap (λ (w : World). w.state.slot) is ∙ c.no_slot;
        not_loaded = ap (λ (w : World). w.state.loaded) is ∙ c.not_loaded;
        not_recent = ap (λ (w : World). w.state.recent) is ∙ c.not_recent;
      };
}

-- an instruction was executed, and nothing is pending behind it, or something is
pub goes_on : {aside : Bool} {pc next : ℕ} {k new : CoreKept} {w : World} → IsReady aside pc k →
    world_of (at next new) ≡ w → w.ending ≡ None → w.state.pc ≡ (at pc k).next → w.state.slot ≡ false →
    w.state.loaded ≡ 0 → w.state.recent ≡ k.recent - 1 → Becomes aside w (went.On next) pc new
goes_on {aside} {pc} {next} {k} {new} {w} ready is on to slot loaded recent = record {
  world = is;
  leaves = (
    not_ended new.stopped (ap (λ (v : World). v.ending) is ∙ on),
    λ plain.
        let c = ready.plain plain in
        let clear : IsClear new = record {
          no_slot = ap (λ (v : World). v.state.slot) is ∙ slot;
          not_loaded = ap (λ (v : World). v.state.loaded) is ∙ loaded;
          not_recent = ap (λ (v : World). v.state.recent) is ∙ recent ∙ ap (λ (n : ℕ). n - 1) c.not_recent;
        } in (
          clear,
          ap (λ (v : World). v.state.pc) is ∙ to ∙ ap (λ (b : Bool). next_of b k.next pc) c.no_slot,
        ),
  );
}

pub goes_pending : {aside : Bool} {pc next : ℕ} {k new : CoreKept} {w : World} → IsReady aside pc k →
    world_of (at next new) ≡ w → w.ending ≡ None → w.state.pc ≡ (at pc k).next →
    Becomes aside w (went.Pending next) pc new
goes_pending {aside} {pc} {next} {k} {new} {w} ready is on to = record {
  world = is;
  leaves = (
    not_ended new.stopped (ap (λ (v : World). v.ending) is ∙ on),
    λ plain.
        ap (λ (v : World). v.state.pc) is ∙ to ∙ ap (λ (b : Bool). next_of b k.next pc) (ready.plain plain).no_slot,
  );
}

-- the address behind the delay slot
pub link : {at pc : ℕ} → at ≡ pc → pc < 4294967288 → at + 8 ≡ (pc + 4 + 4) % 4294967296
link same near = omega (arith, same, near)

-- the table hasn't a word, or has it, and its instruction is a hazard or none
pub unlisted : {aside listed hazard : Bool} {s : State} {w : World} {r : Went} {pc : ℕ} {k : CoreKept} →
    listed ≡ false → Becomes aside (faulted kind.Reserved s) r pc k → Acts aside listed hazard s w r pc k
unlisted {aside} {listed} {hazard} {s} {w} is b =
    record { becomes = becomes (ap (λ (l : Bool). acting l hazard s w) (sym is)) b }

pub hazardous : {aside listed hazard : Bool} {s : State} {w : World} {r : Went} {pc : ℕ} {k : CoreKept} →
    listed ≡ true → hazard ≡ true → Becomes aside (faulted kind.Hazard s) r pc k → Acts aside listed hazard s w r pc k
hazardous {aside} {listed} {hazard} {s} {w} is so b =
    record { becomes = becomes (both (λ (l h : Bool). acting l h s w) (sym is) (sym so)) b }

pub acted : {aside listed hazard : Bool} {s : State} {w : World} {r : Went} {pc : ℕ} {k : CoreKept} →
    listed ≡ true → hazard ≡ false → Becomes aside w r pc k → Acts aside listed hazard s w r pc k
acted {aside} {listed} {hazard} {s} {w} is so b =
    record { becomes = becomes (both (λ (l h : Bool). acting l h s w) (sym is) (sym so)) b }

acts : (listed hazard : Bool) (i : Instr) (s : State) {w : World} → is_hazard i s ≡ hazard →
    (hazard ≡ false → w ≡ act i s) → acting listed hazard s w ≡ does (only listed i) s
acts true true i s is so = sym (ap (λ (b : Bool). if b then faulted kind.Hazard s else act i s) is)
acts true false i s is so = so refl ∙ sym (ap (λ (b : Bool). if b then faulted kind.Hazard s else act i s) is)
acts false hazard i s is so = refl

-- a row whose instruction gives a register a value
pub gives : {aside listed : Bool} {new : CoreKept} {pc r a b r' a' b' : ℕ} {v v' : Option ℕ} {o : Option Instr}
    {went : Went} (k : CoreKept) (i : Instr) →
    Acts aside listed (is_loaded k.loaded r' a' b') (state_of (at pc k)) (given r' v' (state_of (at pc k)))
    went pc new → r' ≡ r → a' ≡ a → b' ≡ b → v' ≡ v →
    is_hazard i (state_of (at pc k)) ≡ is_loaded k.loaded r a b →
    given r v (state_of (at pc k)) ≡ act i (state_of (at pc k)) → only listed i ≡ o →
    Becomes aside (does o (state_of (at pc k))) went pc new
gives {aside} {listed} {new} {pc} {r} {a} {b} {r'} {a'} {b'} {v} {v'} {o} k i is first second third value hazard so
    row =
    let s = state_of (at pc k) in
    becomes (
    both (λ (n : ℕ) (u : Option ℕ). acting listed (is_loaded k.loaded n a' b') s (given n u s)) first value
    ∙ both (λ (n m : ℕ). acting listed (is_loaded k.loaded r n m) s (given r v s)) second third
    ∙ acts listed (is_loaded k.loaded r a b) i s hazard (λ clear. so)
    ∙ ap (λ (p : Option Instr). does p s) row) is.becomes

-- one that sets HI and LO
pub halves : {aside listed : Bool} {new : CoreKept} {pc a b a' b' : ℕ} {w w' : World} {o : Option Instr}
    {went : Went} (k : CoreKept) (i : Instr) →
    Acts aside listed (is_recent k.recent || is_loaded k.loaded a' b' b') (state_of (at pc k)) w' went pc new →
    a' ≡ a → b' ≡ b → w' ≡ w →
    is_hazard i (state_of (at pc k)) ≡ (is_recent k.recent || is_loaded k.loaded a b b) →
    w ≡ act i (state_of (at pc k)) → only listed i ≡ o → Becomes aside (does o (state_of (at pc k))) went pc new
halves {aside} {listed} {new} {pc} {a} {b} {a'} {b'} {w} {w'} k i is first second world hazard so row =
    let s = state_of (at pc k) in
    becomes (
    both (λ (n m : ℕ). acting listed (is_recent k.recent || is_loaded k.loaded n m m) s w') first second
    ∙ ap (acting listed (is_recent k.recent || is_loaded k.loaded a b b) s) world
    ∙ acts listed (is_recent k.recent || is_loaded k.loaded a b b) i s hazard (λ clear. so)
    ∙ ap (λ (p : Option Instr). does p s) row) is.becomes

pub out_of_slot : (slot p : Bool) → (slot || p) ≡ false → slot ≡ false
out_of_slot true p is = is
out_of_slot false p is = refl

-- and one with a delay slot, which stands at the next address
pub jumps : {aside listed : Bool} {new : CoreKept} {pc a b a' b' : ℕ} {w : World} {o : Option Instr}
    {went : Went} (k : CoreKept) (i : Instr) (f : ℕ → World) →
    Acts aside listed (k.slot || is_loaded k.loaded a' b' b') (state_of (at pc k)) w went pc new →
    a' ≡ a → b' ≡ b → w ≡ f (pc + 4) →
    is_hazard i (state_of (at pc k)) ≡ (k.slot || is_loaded k.loaded a b b) →
    f (at pc k).next ≡ act i (state_of (at pc k)) → only listed i ≡ o →
    Becomes aside (does o (state_of (at pc k))) went pc new
jumps {aside} {listed} {new} {pc} {a} {b} {a'} {b'} {w} k i f is first second world hazard so row =
    let s = state_of (at pc k) in
    becomes (
    both (λ (n m : ℕ). acting listed (k.slot || is_loaded k.loaded n m m) s w) first second
    ∙ acts listed (k.slot || is_loaded k.loaded a b b) i s hazard
    (λ clear. world
    ∙ sym (ap (λ (q : Bool). f (next_of q k.next pc)) (out_of_slot k.slot (is_loaded k.loaded a b b) clear))
    ∙ so)
    ∙ ap (λ (p : Option Instr). does p s) row) is.becomes

-- what is neither a jump nor of HI and LO is a hazard as the registers that it names are
quiet : (b slot : Bool) → ((if b then false else false) || (slot && false)) ≡ false
quiet true true = refl
quiet true false = refl
quiet false true = refl
quiet false false = refl

or_false : (b : Bool) → (b || false) ≡ b
or_false true = refl
or_false false = refl

twice : (b : Bool) → (b || b) ≡ b
twice true = refl
twice false = refl

abbrev two : ℕ → ℕ → ℕ → Bool
two loaded a b = if nat_eq loaded 0 then false else (nat_eq a loaded || nat_eq b loaded)

abbrev one : ℕ → ℕ → Bool
one loaded a = if nat_eq loaded 0 then false else nat_eq a loaded

two_of : (loaded a b : ℕ) → two loaded a b ≡ is_loaded loaded a b b
two_of loaded a b =
    ap (λ (q : Bool). if nat_eq loaded 0 then false else (nat_eq a loaded || q)) (sym (twice (nat_eq b loaded)))

one_of : (loaded a : ℕ) → one loaded a ≡ is_loaded loaded a a a
one_of loaded a =
    ap (λ (q : Bool). if nat_eq loaded 0 then false else q) (sym (twice (nat_eq a loaded))) ∙ two_of loaded a a

alone : (p : Bool) (recent : ℕ) (slot : Bool) →
    (p || ((if nat_eq recent 0 then false else false) || (slot && false))) ≡ p
alone p recent slot = ap (λ (q : Bool). p || q) (quiet (nat_eq recent 0) slot) ∙ or_false p

abbrev Quietly : Bool → ℕ → Bool → Bool
Quietly p recent slot = p || ((if nat_eq recent 0 then false else false) || (slot && false))

pub three_names : (k : CoreKept) (a b c : ℕ) →
    Quietly (is_loaded k.loaded a b c) k.recent k.slot ≡ is_loaded k.loaded a b c
three_names k a b c = alone _ k.recent k.slot

pub two_names : (k : CoreKept) (a b : ℕ) →
    Quietly (two k.loaded a b) k.recent k.slot ≡ is_loaded k.loaded a b b
two_names k a b = alone _ k.recent k.slot ∙ two_of k.loaded a b

pub one_name : (k : CoreKept) (a : ℕ) → Quietly (one k.loaded a) k.recent k.slot ≡ is_loaded k.loaded a a a
one_name k a = alone _ k.recent k.slot ∙ one_of k.loaded a

pub names_nothing : (k : CoreKept) → Quietly (if nat_eq k.loaded 0 then false else false) k.recent k.slot ≡ false
names_nothing k = alone _ k.recent k.slot ∙ by (nat_eq k.loaded 0)
  where
    by : (b : Bool) → (if b then false else false) ≡ false
    by true = refl
    by false = refl

-- what sets HI or LO is one where one of both was read lately too
abbrev Setting : Bool → ℕ → Bool → Bool
Setting p recent slot = p || ((if nat_eq recent 0 then false else true) || (slot && false))

sets : (p b slot : Bool) →
    (p || ((if b then false else true) || (slot && false))) ≡ ((if b then false else true) || p)
sets true true true = refl
sets true true false = refl
sets true false true = refl
sets true false false = refl
sets false true true = refl
sets false true false = refl
sets false false true = refl
sets false false false = refl

pub sets_two : (k : CoreKept) (a b : ℕ) →
    Setting (two k.loaded a b) k.recent k.slot ≡ (is_recent k.recent || is_loaded k.loaded a b b)
sets_two k a b = sets _ (nat_eq k.recent 0) k.slot ∙ ap (λ (q : Bool). is_recent k.recent || q) (two_of k.loaded a b)

pub sets_one : (k : CoreKept) (a : ℕ) →
    Setting (one k.loaded a) k.recent k.slot ≡ (is_recent k.recent || is_loaded k.loaded a a a)
sets_one k a = sets _ (nat_eq k.recent 0) k.slot ∙ ap (λ (q : Bool). is_recent k.recent || q) (one_of k.loaded a)

-- and a jump is one in a delay slot too
abbrev Jumping : Bool → ℕ → Bool → Bool
Jumping p recent slot = p || ((if nat_eq recent 0 then false else false) || (slot && true))

turned : (p b slot : Bool) → (p || ((if b then false else false) || (slot && true))) ≡ (slot || p)
turned true true true = refl
turned true true false = refl
turned true false true = refl
turned true false false = refl
turned false true true = refl
turned false true false = refl
turned false false true = refl
turned false false false = refl

pub jump_names_two : (k : CoreKept) (a b : ℕ) →
    Jumping (two k.loaded a b) k.recent k.slot ≡ (k.slot || is_loaded k.loaded a b b)
jump_names_two k a b =
    turned _ (nat_eq k.recent 0) k.slot ∙ ap (λ (q : Bool). k.slot || q) (two_of k.loaded a b)

pub jump_names_one : (k : CoreKept) (a : ℕ) →
    Jumping (one k.loaded a) k.recent k.slot ≡ (k.slot || is_loaded k.loaded a a a)
jump_names_one k a =
    turned _ (nat_eq k.recent 0) k.slot ∙ ap (λ (q : Bool). k.slot || q) (one_of k.loaded a)

-- the register 0 is never loaded
none_of : (loaded : ℕ) → (if nat_eq loaded 0 then false else false) ≡ is_loaded loaded 0 0 0
none_of zero = refl
none_of (suc n) =
    let no : nat_eq 0 (suc n) ≡ false = grind (arith, nat_tests) in
    sym (ap (λ (q : Bool). if nat_eq (suc n) 0 then false else (q || (q || q))) no)

pub zero_loaded : (loaded : ℕ) → is_loaded loaded 0 0 0 ≡ false
zero_loaded loaded = sym (none_of loaded) ∙ by (nat_eq loaded 0)
  where
    by : (b : Bool) → (if b then false else false) ≡ false
    by true = refl
    by false = refl

pub jump_names_none : (k : CoreKept) →
    Jumping (if nat_eq k.loaded 0 then false else false) k.recent k.slot ≡ (k.slot || is_loaded k.loaded 0 0 0)
jump_names_none k =
    turned _ (nat_eq k.recent 0) k.slot ∙ ap (λ (q : Bool). k.slot || q) (none_of k.loaded)

-- where a row names what its word must not be, beside a field that must be 0
pub barred : (x n : ℕ) (o : Option Instr) (s : State) → x ≡ n → faulted kind.Reserved s ≡ does (cond (x == n) None o) s
barred x n o s is =
    let yes : (x == n) ≡ true = grind (arith, nat_tests, is) in sym (ap (λ (b : Bool). does (cond b None o) s) yes)

pub not_barred : (x n : ℕ) (i : Instr) → only (not (x == n)) i ≡ cond (x == n) None (Some i)
not_barred x n i = by (x == n)
  where
    by : (b : Bool) → only (not b) i ≡ cond b None (Some i)
    by true = refl
    by false = refl

not_first : (x y : ℕ) → x ≢ 0 → ((x == 0) && (y == 0)) ≡ false
not_first x y not =
    let no : (x == 0) ≡ false = grind (arith, nat_tests, not) in ap (λ (b : Bool). b && (y == 0)) no

not_second : (x y : ℕ) → y ≢ 0 → ((x == 0) && (y == 0)) ≡ false
not_second x y not =
    let no : (y == 0) ≡ false = grind (arith, nat_tests, not) in
    ap (λ (b : Bool). (x == 0) && b) no ∙ none (x == 0)
  where
    none : (b : Bool) → (b && false) ≡ false
    none true = refl
    none false = refl

-- MFHI and MFLO, by the fields that must be 0
not_moved : (half : HiLo) (w : ℕ) (s : State) → ((w / 65536 == 0) && (shamt w == 0)) ≡ false →
    faulted kind.Reserved s ≡ does (move_from half w) s
not_moved half w s is = sym (ap (λ (b : Bool). does (only b (MoveFrom half (rd w))) s) is)

pub moves : (half : HiLo) (w : ℕ) → w / 65536 ≡ 0 → shamt w ≡ 0 →
    only true (MoveFrom half (rd w)) ≡ move_from half w
moves half w none shift =
    let yes : (w / 65536 == 0) ≡ true = grind (arith, nat_tests, none) in
    let too : (shamt w == 0) ≡ true = grind (arith, nat_tests, shift) in
    sym (both (λ (a b : Bool). only (a && b) (MoveFrom half (rd w))) yes too)

pub moves_nothing : (half : HiLo) (w : ℕ) (s : State) → w / 65536 ≢ 0 →
    faulted kind.Reserved s ≡ does (move_from half w) s
moves_nothing half w s not = not_moved half w s (not_first (w / 65536) (shamt w) not)

pub moves_shifted : (half : HiLo) (w : ℕ) (s : State) → shamt w ≢ 0 →
    faulted kind.Reserved s ≡ does (move_from half w) s
moves_shifted half w s not = not_moved half w s (not_second (w / 65536) (shamt w) not)

-- a hazard, or none, of an instruction that the table has
pub hazard : {o : Option Instr} (i : Instr) (s : State) → is_hazard i s ≡ true → only true i ≡ o →
    faulted kind.Hazard s ≡ does o s
hazard i s is row =
    sym (ap (λ (b : Bool). if b then faulted kind.Hazard s else act i s) is) ∙ ap (λ (p : Option Instr). does p s) row

pub no_hazard : {o : Option Instr} (i : Instr) (s : State) → is_hazard i s ≡ false → only true i ≡ o →
    act i s ≡ does o s
no_hazard i s is row =
    sym (ap (λ (b : Bool). if b then faulted kind.Hazard s else act i s) is) ∙ ap (λ (p : Option Instr). does p s) row

-- the names that were asked for are the row's
pub asked : (loaded : ℕ) {x y z a b c : ℕ} {r v : Bool} → r ≡ is_loaded loaded x y z → r ≡ v →
    x ≡ a → y ≡ b → z ≡ c → is_loaded loaded a b c ≡ v
asked loaded {x} {y} {z} {a} {b} {c} is so first second third =
    sym (both (λ (n m : ℕ). is_loaded loaded n m c) first second) ∙ sym (ap (is_loaded loaded x y) third) ∙ sym is ∙ so

-- JALR, by its two registers and by the fields that must be 0
abbrev linked : ℕ → Instr
linked w = JumpAndLinkRegister (record { rd = rd w; rs = rs w })

pub links : (w : ℕ) → rd w ≢ rs w → rt w ≡ 0 → only (shamt w == 0) (linked w) ≡ jump_and_link_register w
links w others register =
    let no : (rd w == rs w) ≡ false = grind (arith, nat_tests, others) in
    let yes : (rt w == 0) ≡ true = grind (arith, nat_tests, register) in
    sym (both (λ (a b : Bool). cond a None (only (b && (shamt w == 0)) (linked w))) no yes)

pub links_itself : (w : ℕ) (s : State) → rd w ≡ rs w → faulted kind.Reserved s ≡ does (jump_and_link_register w) s
links_itself w s is = barred (rd w) (rs w) (only ((rt w == 0) && (shamt w == 0)) (linked w)) s is

pub links_register : (w : ℕ) (s : State) → rt w ≢ 0 → faulted kind.Reserved s ≡ does (jump_and_link_register w) s
links_register w s not =
    by (rd w == rs w)
    ∙ sym (ap (λ (q : Bool). does (cond (rd w == rs w) None (only q (linked w))) s) (not_first (rt w) (shamt w) not))
  where
    by : (q : Bool) → faulted kind.Reserved s ≡ does (cond q None (only false (linked w))) s
    by true = refl
    by false = refl

-- a load or a store of a register, at an address that was computed, where it is no hazard
pub accesses : (k : CoreKept) (pc w : ℕ) {op o : MemoryOp} {r x n : ℕ} → op ≡ o → r ≡ rt w →
    x ≡ register (rs w) (data_of k) → n ≡ widened_half (immediate w) → is_loaded k.loaded (rt w) (rs w) (rs w) ≡ false →
    accessing o r ((x + n) % 4294967296) (state_of (at pc k)) ≡ does (memory op w) (state_of (at pc k))
accesses k pc w {op} {o} {r} {x} {n} is first second third clear =
    let s = state_of (at pc k) in
    both (λ (p : MemoryOp) (q : ℕ). accessing p q ((x + n) % 4294967296) s) (sym is) first
    ∙ both (λ (u v : ℕ). accessing op (rt w) ((u + v) % 4294967296) s) second third
    ∙ no_hazard (Memory op (rt w) (immediate w) (rs w)) s (two_names k (rt w) (rs w) ∙ clear) refl

-- HI or LO was read to a register
pub read_half : (k mid on new : CoreKept) (pc next : ℕ) {r q v u : ℕ} →
    world_of (at next new) ≡ with_recent 2 (world_of (at next on)) →
    world_of (at next on) ≡ moved ((at pc mid).next + 4) false (world_of (at pc mid)) →
    world_of (at pc mid) ≡ wrote r v (world_of (at pc k)) → k.stopped ≡ None → r ≡ q → v ≡ u →
    world_of (at next new) ≡ apply (Plain (set_register q u (data_of k))) 2 (state_of (at pc k))
read_half k mid on new pc next {r} {q} {v} {u} recent went takes runs same value =
    recent
    ∙ ap (with_recent 2) went
    ∙ ap (λ (w : World). with_recent 2 (moved (w.state.next + 4) false w)) takes
    ∙ ap (λ (o : Option Halt). record (read r v) { ending = ending_from o }) runs
    ∙ both read same value
  where
    read : ℕ → ℕ → World
    read n x = apply (Plain (set_register n x (data_of k))) 2 (state_of (at pc k))
