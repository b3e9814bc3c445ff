-- The ops of a tick on the staged machine: from the one that begins to the last that puts a word. They make the
-- specification that the meaning makes, or they end the run with its first trap.
use Rattle.std.proofs.Common.{◌≡◌, ◌≢◌, ℕ, zero, suc, ◌+◌, ◌*◌, ◌<◌, ◌≤◌, List, [], ◌∷◌, ◌++◌, length, Option, Some}
use Rattle.std.proofs.Common.{None, ◌⊎◌, inl, inr, Bool, true, false, refl, sym, ap, ◌∙◌, subst, arith}
use Rattle.std.specs.Prelude.{slice_get, ◌&&◌, if◌then◌else◌, nat_lt, max}
use Rattle.host_edge.specs.declared.ending.Ending.TheVariants.{Trap}
use Rattle.host_edge.specs.declared.ending.TrapKind.{TrapKind}
use Rattle.host_edge.specs.declared.ending.TrapKind.TheVariants.{BadSpec}
use Rattle.history.specs.Events.{Ended}
use Rattle.icode_ops.specs.declared.op.Op.{Op}
use Rattle.icode_ops.specs.declared.op.Op.TheVariants as op
use Rattle.icode_ops.specs.declared.kind.RunKind.{RunKind}
use Rattle.icode_ops.specs.declared.kind.RunKind.TheVariants as run
use Rattle.typed_tree.specs.declared.expression.CaptureKind.{CaptureKind}
use Rattle.typed_tree.specs.declared.expression.CaptureKind.TheVariants as kind
use Rattle.typed_tree.specs.declared.expression.Answer.TheVariants as answer
use Rattle.history.specs.Syntax.{Captures}
use Rattle.meaning_state.specs.Rows.{key_parameters}
use Rattle.meaning_state.specs.Rows as keys
use Rattle.staged_meaning.specs.Program.{captures_size}
use Rattle.staged_meaning.specs.Specifications.{capture, captures_of}
use Rattle.meaning_state.specs.Shared.{Specification, Expression, Statement, Local, Param}
use Rattle.meaning_state.specs.Rows.{numbered}
use Rattle.staged_meaning.specs.Specifications.{fits, captures_trap}
use Rattle.icode_meaning.specs.State.{Program, Frame, State, Making, Halted, Stuck, Log, Draft, Summing, Filling}
use Rattle.icode_meaning.specs.Steps.{paid, unless, uses_on, making, size_in, parameters_in}
use Rattle.tick_lower_spec.specs.Lower.{check_run}
use Rattle.std.proofs.lemmas.Bool.{lt-ltb, eq-eqb, ne_eqb}
use Rattle.std.proofs.lemmas.List.{append-nil, append_assoc, length-append}
use Rattle.std.proofs.lemmas.Bool.Decides.{nat_tests}
use Rattle.icode_meaning.specs.Steps.{makes, adds, checks, filled, is_there}
use Rattle.tick_lower_proof.proofs.Smalls.{AreSmall}
use Rattle.tick_lower_proof.proofs.Makings.{count_of, checks_in}
use Rattle.tick_lower_proof.proofs.Machine.{Goes, goes_more, Here, Regs, frame_at, put, put_other, IsSet, IsSame}
use Rattle.tick_lower_proof.proofs.Machine.{same_set, same_on}
use Rattle.tick_lower_proof.proofs.Builder.{Has}

-- registers that hold values, each below a register
abbrev pub AreSet : (below : ℕ) → Regs → (registers values : List ℕ) → Type 0
AreSet n r [] [] = Unit {0}
AreSet n r (a ∷ rs) (x ∷ xs) = (a < n) × IsSet r a x × AreSet n r rs xs
AreSet n r _ _ = ⊥

pub set_on : (n d v : ℕ) (r : Regs) (rs xs : List ℕ) → n ≤ d → AreSet n r rs xs → AreSet (suc d) (put d v r) rs xs
set_on n d v r [] [] le h = tt
set_on n d v r [] (x ∷ xs) le h = absurd h
set_on n d v r (a ∷ rs) [] le h = absurd h
set_on n d v r (a ∷ rs) (x ∷ xs) le h =
    let lt = h.0 in
    let ne : a ≢ d = omega (arith, le, lt) in
    (omega (arith, le, lt), same_set r (put d v r) a x (put_other d v a r ne) h.1, set_on n d v r rs xs le h.2)

-- ---- checks

-- each check's answer has a register of its own
abbrev pub answered : Option RunKind → ℕ → ℕ
answered None next = next
answered (Some routine) next = suc next

abbrev pub check_op : Option RunKind → (from next : ℕ) → List Op → List Op
check_op None from next rest = rest
check_op (Some routine) from next rest = op.Run routine next from ∷ rest

abbrev pub check_ops : List CaptureKind → (registers : List ℕ) → (next : ℕ) → (rest : ℕ → List Op) → List Op
check_ops (k ∷ kinds) (r ∷ rs) next rest =
    check_op (check_run k) r next (check_ops kinds rs (answered (check_run k) next) rest)
check_ops _ _ next rest = rest next

-- sizes and parameters of captured specifications, added to what was there
abbrev pub sized : Program → Option RunKind → Option Specification → ℕ → ℕ
sized P None row size = size
sized P (Some routine) row size = size + size_in P row

abbrev pub widened : Option RunKind → Option Specification → ℕ → ℕ
widened None row parameters = parameters
widened (Some routine) row parameters = max parameters (parameters_in row)

abbrev pub sizes : Program → List Specification → List CaptureKind → List ℕ → ℕ → ℕ
sizes P rows (k ∷ kinds) (v ∷ words) size = sizes P rows kinds words (sized P (check_run k) (numbered v rows) size)
sizes P rows _ words size = size

abbrev pub widths : List Specification → List CaptureKind → List ℕ → ℕ → ℕ
widths rows (k ∷ kinds) (v ∷ words) parameters =
    widths rows kinds words (widened (check_run k) (numbered v rows) parameters)
widths rows _ words parameters = parameters

-- a register that is below the first of some that are set, or above the last
abbrev pub Beside : (first behind x : ℕ) → Type 0
Beside first behind x = (x < first) ⊎ (behind ≤ x)

pub beside_less : (first behind x : ℕ) → Beside first (suc behind) x → Beside first behind x
beside_less first behind x (inl h) = inl h
beside_less first behind x (inr h) = inr (omega (arith, h))

pub beside_other : (first behind x : ℕ) → first ≤ behind → Beside first (suc behind) x → x ≢ behind
beside_other first behind x le (inl h) = let ne : x ≢ behind = omega (arith, h, le) in ne
beside_other first behind x le (inr h) = let ne : x ≢ behind = omega (arith, h) in ne

-- what the checks come to, by the trap of the captures
pub record Summed (P : Program) (s : State) (f : Here) (code : List Op) (rest : ℕ → List Op) (size parameters : ℕ)
    (registers values : List ℕ) (below : ℕ) (r : Regs) (g : Log) (most n0 p0 count : ℕ) : Type 0 where
  pub next : ℕ
  pub place : ℕ
  pub next_is : next ≡ n0 + count
  pub place_is : place ≡ p0 + count
  pub regs : Regs
  pub log : Log
  pub goes : Goes P s (Making (Summing size parameters) (frame_at f place regs) f.waiting log)
  pub has : Has code place (rest next)
  pub above : below ≤ next
  pub set : AreSet next regs registers values
  pub same : (x : ℕ) → Beside below next x → IsSame r regs x
  pub shared_is : log.shared ≡ g.shared
  pub low : g.least ≤ log.least
  pub high : log.most ≤ g.most + most

pub record Bad (P : Program) (s : State) (kind : TrapKind) (g : Log) (most : ℕ) : Type 0 where
  pub log : Log
  pub goes : Goes P s (Halted (Ended (Trap kind)) log)
  pub shared_is : log.shared ≡ g.shared
  pub low : g.least ≤ log.least
  pub high : log.most ≤ g.most + most

abbrev pub Checked : Option TrapKind → (P : Program) (s : State) (f : Here) (code : List Op) (rest : ℕ → List Op)
    (size parameters : ℕ) (registers values : List ℕ) (below : ℕ) (r : Regs) (g : Log) (most n0 p0 count : ℕ) → Type 0
Checked None P s f code rest size parameters rs vs below r g most n0 p0 count =
    Summed P s f code rest size parameters rs vs below r g most n0 p0 count
Checked (Some kind) P s f code rest size parameters rs vs below r g most n0 p0 count = Bad P s kind g most

-- ---- one op while a specification is made
module _ (P : Program) (s : State) (f : Here) where
  pub make_op : (draft : Draft) (p : ℕ) (r : Regs) (g : Log) (o : Op) →
      Goes P s (Making draft (frame_at f p r) f.waiting g) → slice_get f.function.ops p ≡ Some o →
      uses_on o r.on ≡ true → Goes P s (makes P o draft (frame_at f p r) f.waiting g)
  make_op draft p r g o a h e = goes_more a (record {
    steps = 1;
    comes = ap (λ x. making P x draft (frame_at f p r) f.waiting g) h ∙
        ap (λ b. if b then makes P o draft (frame_at f p r) f.waiting g else Stuck g) e;
  })

  -- a number that fits is added, another one traps
  abbrev Added : Bool → (k : CaptureKind) (o : Op) (next : ℕ) (row : Option Specification)
      (size parameters p : ℕ) (r : Regs) (g : Log) → Type 0
  Added true k o next row size parameters p r g =
      Goes P s (Making (Summing (size + size_in P row) (max parameters (parameters_in row)))
      (frame_at f (suc p) (put next 0 r)) f.waiting (paid o g))
  Added false k o next row size parameters p r g = Goes P s (Halted (Ended (Trap BadSpec)) (paid o g))

  adds_goes : (b : Bool) (k : CaptureKind) (o : Op) (next : ℕ) (row : Option Specification) (size parameters p : ℕ)
      (r : Regs) (g : Log) → fits k row ≡ b → size + size_in P row < 4294967296 →
      Goes P s (adds P o next k row size parameters (frame_at f p r) f.waiting g) →
      Added b k o next row size parameters p r g
  adds_goes true k o next row size parameters p r g e lt go =
      let M = Making (Summing (size + size_in P row) (max parameters (parameters_in row)))
      (frame_at f (suc p) (put next 0 r)) f.waiting (paid o g) in
      let go1 = subst (λ b. Goes P s (unless (if b then None else Some BadSpec) (paid o g)
      (if nat_lt (size + size_in P row) 4294967296 then M else Stuck g))) e go in
      subst (λ b. Goes P s (if b then M else Stuck g)) (lt-ltb (size + size_in P row) 4294967296 lt) go1
  adds_goes false k o next row size parameters p r g e lt go =
      let M = Making (Summing (size + size_in P row) (max parameters (parameters_in row)))
      (frame_at f (suc p) (put next 0 r)) f.waiting (paid o g) in
      subst (λ b. Goes P s (unless (if b then None else Some BadSpec) (paid o g)
      (if nat_lt (size + size_in P row) 4294967296 then M else Stuck g))) e go

  -- the op that checks a captured number
  check_step : (k : CaptureKind) (routine : RunKind) →
      ((o : Op) (next number size parameters : ℕ) (frame : Frame) (waiting : List Frame) (g : Log) →
      checks P o routine next number size parameters frame waiting g
      ≡ adds P o next k (numbered number g.shared.specifications) size parameters frame waiting g) →
      (a v next size parameters p : ℕ) (r : Regs) (g : Log) (b : Bool) → IsSet r a v →
      slice_get f.function.ops p ≡ Some (op.Run routine next a) →
      fits k (numbered v g.shared.specifications) ≡ b →
      size + size_in P (numbered v g.shared.specifications) < 4294967296 →
      Goes P s (Making (Summing size parameters) (frame_at f p r) f.waiting g) →
      Added b k (op.Run routine next a) next (numbered v g.shared.specifications) size parameters p r g
  check_step k routine is a v next size parameters p r g b set here e lt go =
      let o = op.Run routine next a in
      adds_goes b k o next (numbered v g.shared.specifications) size parameters p r g e lt
      (subst (λ x. Goes P s (adds P o next k (numbered x g.shared.specifications) size parameters (frame_at f p r)
      f.waiting g)) set.value
      (subst (Goes P s) (is o next (r.values a) size parameters (frame_at f p r) f.waiting g)
      (make_op (Summing size parameters) p r g o go here (ap (λ b. b && true) set.on))))

  -- what one capture comes to
  abbrev One : Bool → (k : CaptureKind) (routine : Option RunKind) (from next : ℕ)
      (row : Option Specification) (size parameters p : ℕ) (r : Regs) (g : Log) → Type 0
  One true k None a next row size parameters p r g = Unit {0}
  One false k None a next row size parameters p r g = ⊥
  One b k (Some routine) a next row size parameters p r g =
      Added b k (op.Run routine next a) next row size parameters p r g

  check_one : (k : CaptureKind) (a v next size parameters p : ℕ) (r : Regs) (g : Log) (b : Bool) (rest : List Op) →
      IsSet r a v → Has f.function.ops p (check_op (check_run k) a next rest) →
      fits k (numbered v g.shared.specifications) ≡ b →
      size + size_in P (numbered v g.shared.specifications) < 4294967296 →
      Goes P s (Making (Summing size parameters) (frame_at f p r) f.waiting g) →
      One b k (check_run k) a next (numbered v g.shared.specifications) size parameters p r g
  check_one kind.Dollar a v next size parameters p r g true rest set has e lt go = tt
  check_one kind.Dollar a v next size parameters p r g false rest set has e lt go = absurd cc
  check_one kind.Address a v next size parameters p r g true rest set has e lt go = tt
  check_one kind.Address a v next size parameters p r g false rest set has e lt go = absurd cc
  check_one (kind.Splice answer.Value) a v next size parameters p r g b rest set has e lt go =
      check_step (kind.Splice answer.Value) run.Expression (λ o n x z q frame w g. refl) a v next size parameters p r g
      b set
      has.0 e lt go
  check_one (kind.Splice answer.Void) a v next size parameters p r g b rest set has e lt go =
      check_step (kind.Splice answer.Void) run.Statement (λ o n x z q frame w g. refl) a v next size parameters p r g b
      set
      has.0 e lt go
  check_one kind.Variable a v next size parameters p r g b rest set has e lt go =
      check_step kind.Variable run.Variable (λ o n x z q frame w g. refl) a v next size parameters p r g b set
      has.0 e lt go

-- seen from an earlier log
checked_from : (trap : Option TrapKind) (P : Program) (s : State) (f : Here) (code : List Op) (rest : ℕ → List Op)
    (size parameters : ℕ) (rs vs : List ℕ) (below : ℕ) (r : Regs) (g g1 : Log) (most most1 n0 p0 count n1 p1 count1 : ℕ)
    → n1 + count1 ≡ n0 + count →
    p1 + count1 ≡ p0 + count → g1.shared ≡ g.shared → g.least ≤ g1.least → g1.most + most1 ≤ g.most + most →
    Checked trap P s f code rest size parameters rs vs below r g1 most1 n1 p1 count1 →
    Checked trap P s f code rest size parameters rs vs below r g most n0 p0 count
checked_from None P s f code rest size parameters rs vs below r g g1 most most1 n0 p0 count n1 p1 count1 en ep e low
    high
    h =
    record {
      next = h.next;
      place = h.place;
      next_is = h.next_is ∙ en;
      place_is = h.place_is ∙ ep;
      regs = h.regs;
      log = h.log;
      goes = h.goes;
      has = h.has;
      above = h.above;
      set = h.set;
      same = h.same;
      shared_is = h.shared_is ∙ e;
      low = omega (arith, h.low, low);
      high = omega (arith, h.high, high);
    }
checked_from (Some kind) P s f code rest size parameters rs vs below r g g1 most most1 n0 p0 count n1 p1 count1 en ep e
    low high h =
    record {
      log = h.log;
      goes = h.goes;
      shared_is = h.shared_is ∙ e;
      low = omega (arith, h.low, low);
      high = omega (arith, h.high, high);
    }

module _ (P : Program) (s : State) (f : Here) (rows : List Specification) (most : ℕ) (small : AreSmall P most rows)
    (rest : ℕ → List Op) (ars avs : List ℕ) where
  -- the checks of what is left of the captures, from register next on
  abbrev CheckAll : List CaptureKind → (rs vs : List ℕ) → Type 0
  CheckAll kinds rs vs =
      (size parameters below next p : ℕ) (r0 r : Regs) (g : Log) → below ≤ next → AreSet next r rs vs →
      AreSet next r ars avs → ((x : ℕ) → Beside below next x → IsSame r0 r x) → g.shared.specifications ≡ rows →
      size + most * length kinds < 4294967296 → Has f.function.ops p (check_ops kinds rs next rest) →
      Goes P s (Making (Summing size parameters) (frame_at f p r) f.waiting g) →
      Checked (captures_trap rows kinds vs) P s f f.function.ops rest (sizes P rows kinds vs size)
      (widths rows kinds vs parameters) ars avs below r0 g (75 * length kinds) next p (checks_in kinds)

  pub check_all : (kinds : List CaptureKind) (rs vs : List ℕ) → length rs ≡ length kinds → length vs ≡ length kinds →
      CheckAll kinds rs vs
  check_all [] [] [] e1 e2 size parameters below next p r0 r g le set all same is few has go =
      record {
        next = next;
        place = p;
        next_is = omega arith;
        place_is = omega arith;
        regs = r;
        log = g;
        goes = go;
        has = has;
        above = le;
        set = all;
        same = same;
        shared_is = refl;
        low = omega arith;
        high = omega arith;
      }
  check_all [] (a ∷ rs) vs e1 e2 size parameters below next p r0 r g le set all same is few has go =
      absurd (omega (arith, e1))
  check_all [] [] (v ∷ vs) e1 e2 size parameters below next p r0 r g le set all same is few has go =
      absurd (omega (arith, e2))
  check_all (k ∷ kinds) [] vs e1 e2 size parameters below next p r0 r g le set all same is few has go =
      absurd (omega (arith, e1))
  check_all (k ∷ kinds) (a ∷ rs) [] e1 e2 size parameters below next p r0 r g le set all same is few has go =
      absurd (omega (arith, e2))
  check_all (k ∷ kinds) (a ∷ rs) (v ∷ vs) e1 e2 size parameters below next p r0 r g le set all same is few has go =
      let low = small v in
      let lt : size + size_in P (numbered v rows) < 4294967296 = omega (arith, few, low) in
      by (check_all kinds rs vs (omega (arith, e1)) (omega (arith, e2))) (check_run k) (fits k (numbered v rows)) has
      (subst (λ z. One P s f (fits k (numbered v rows)) k (check_run k) a next (numbered v z) size parameters p r g) is
      (check_one P s f k a v next size parameters p r g (fits k (numbered v rows))
      (check_ops kinds rs (answered (check_run k) next) rest) set.1 has (ap (λ z. fits k (numbered v z)) is)
      (subst (λ z. size + size_in P (numbered v z) < 4294967296) (sym is) lt) go))
    where
      by : CheckAll kinds rs vs → (ro : Option RunKind) (b : Bool) →
          Has f.function.ops p (check_op ro a next (check_ops kinds rs (answered ro next) rest)) →
          One P s f b k ro a next (numbered v rows) size parameters p r g →
          Checked (if b then captures_trap rows kinds vs else Some BadSpec) P s f f.function.ops rest
          (sizes P rows kinds vs (sized P ro (numbered v rows) size))
          (widths rows kinds vs (widened ro (numbered v rows) parameters)) ars avs below r0 g
          (75 * suc (length kinds)) next p (count_of ro + checks_in kinds)
      by deeper None true has one =
          checked_from (captures_trap rows kinds vs) P s f f.function.ops rest (sizes P rows kinds vs size)
          (widths rows kinds vs parameters) ars avs below r0 g g (75 * suc (length kinds)) (75 * length kinds) next p
          (0 + checks_in kinds) next p (checks_in kinds) (omega arith) (omega arith) refl
          (omega arith) (omega arith)
          (deeper size parameters below next p r0 r g le set.2 all
          same is (omega (arith, few)) has go)
      by deeper None false has one = absurd one
      by deeper (Some routine) true has one =
          let o = op.Run routine next a in
          let le1 : below ≤ next = le in
          let low = small v in
          checked_from (captures_trap rows kinds vs) P s f f.function.ops rest
          (sizes P rows kinds vs (size + size_in P (numbered v rows)))
          (widths rows kinds vs (max parameters (parameters_in (numbered v rows)))) ars avs below r0 g (paid o g)
          (75 * suc (length kinds)) (75 * length kinds) next p (1 + checks_in kinds) (suc next) (suc p)
          (checks_in kinds) (omega arith) (omega arith) refl
          (omega arith) (omega arith)
          (deeper (size + size_in P (numbered v rows))
          (max parameters (parameters_in (numbered v rows))) below (suc next) (suc p) r0 (put next 0 r) (paid o g)
          (omega (arith, le)) (set_on next next 0 r rs vs (omega arith) set.2)
          (set_on next next 0 r ars avs (omega arith) all)
          (λ x beside. same_on r0 r (put next 0 r) x (same x (beside_less below next x beside))
          (put_other next 0 x r (beside_other below next x le1 beside)))
          is (omega (arith, few, low)) has.1 one)
      by deeper (Some routine) false has one =
          record {
            log = paid (op.Run routine next a) g;
            goes = one;
            shared_is = refl;
            low = omega arith;
            high = omega arith;
          }

-- ---- the closure and its words
abbrev pub put_ops : (capture : ℕ) → (registers : List ℕ) → List Op → List Op
put_ops i [] rest = rest
put_ops i (r ∷ rs) rest = op.Put i r ∷ put_ops (suc i) rs rest

length_more : (xs : List ℕ) (x : ℕ) → length (xs ++ x ∷ []) ≡ suc (length xs)
length_more xs x = let e = length-append xs (x ∷ []) in omega (arith, e)

module _ (P : Program) (s : State) (f : Here) (tick size parameters : ℕ) where
  abbrev Filled : (words : List ℕ) (p : ℕ) (r : Regs) (g : Log) → Type 0
  Filled words p r g = Goes P s (filled P tick size parameters words (frame_at f p r) f.waiting g)

  -- all words are put
  pub record IsFilled (words : List ℕ) (rest : List Op) (r : Regs) (g : Log) (most p0 : ℕ) : Type 0 where
    pub place : ℕ
    pub place_is : place ≡ p0
    pub log : Log
    pub goes : Goes P s (is_there P tick size parameters words (frame_at f place r) f.waiting log)
    pub has : Has f.function.ops place rest
    pub shared_is : log.shared ≡ g.shared
    pub low : g.least ≤ log.least
    pub high : log.most ≤ g.most + most

  pub put_all : (rs vs words : List ℕ) (i n p : ℕ) (r : Regs) (g : Log) (rest : List Op) → i ≡ length words →
      length rs ≡ length vs → i + length rs ≡ length (P.kinds tick) → AreSet n r rs vs →
      Has f.function.ops p (put_ops i rs rest) → Filled words p r g →
      IsFilled (words ++ vs) rest r g (8 * length rs) (p + length rs)
  put_all [] [] words i n p r g rest same e1 e2 set has go =
      let e : length words ≡ length (P.kinds tick) = omega (arith, same, e2) in
      record {
        place = p;
        place_is = omega arith;
        log = g;
        goes = subst (λ ws. Goes P s (is_there P tick size parameters ws (frame_at f p r) f.waiting g))
            (sym (append-nil words))
            (subst (λ b. Goes P s (if b then is_there P tick size parameters words (frame_at f p r) f.waiting g else
            Making (Filling tick size parameters words) (frame_at f p r) f.waiting g))
            (eq-eqb (length words) (length (P.kinds tick)) e) go);
        has = has;
        shared_is = refl;
        low = omega arith;
        high = omega arith;
      }
  put_all [] (x ∷ vs) words i n p r g rest same e1 e2 set has go = absurd set
  put_all (a ∷ rs) [] words i n p r g rest same e1 e2 set has go = absurd set
  put_all (a ∷ rs) (x ∷ vs) words i n p r g rest same e1 e2 set has go =
      let ne : length words ≢ length (P.kinds tick) = omega (arith, same, e2) in
      let o = op.Put i a in
      let go1 = subst (λ b. Goes P s (if b then is_there P tick size parameters words (frame_at f p r) f.waiting g else
      Making (Filling tick size parameters words) (frame_at f p r) f.waiting g))
      (ne_eqb (length words) (length (P.kinds tick)) ne) go in
      let go2 = make_op P s f (Filling tick size parameters words) p r g o go1 has.0 (ap (λ b. b && true) set.1.on) in
      let go3 : Filled (words ++ r.values a ∷ []) (suc p) r (paid o g) =
      subst (λ b. Goes P s (if b then filled P tick size parameters (words ++ r.values a ∷ [])
      (frame_at f (suc p) r) f.waiting (paid o g) else Stuck g)) (eq-eqb i (length words) same) go2 in
      let go4 = subst (λ y. Filled (words ++ y ∷ []) (suc p) r (paid o g)) set.1.value go3 in
      let more = put_all rs vs (words ++ x ∷ []) (suc i) n (suc p) r (paid o g) rest
      (ap suc same ∙ sym (length_more words x)) (omega (arith, e1)) (omega (arith, e2)) set.2 has.1 go4 in
      record {
        place = more.place;
        place_is = let e = more.place_is in omega (arith, e);
        log = more.log;
        goes = subst (λ ws. Goes P s (is_there P tick size parameters ws (frame_at f more.place r) f.waiting more.log))
            (append_assoc words (x ∷ []) vs) more.goes;
        has = more.has;
        shared_is = more.shared_is;
        low = omega (arith, more.low);
        high = omega (arith, more.high);
      }

-- ---- what was checked is the size, and are the parameters, of the specification
-- the first captured number fits, and the others do
fits_first : (b : Bool) (rest : Option TrapKind) → (if b then rest else Some BadSpec) ≡ None →
    (b ≡ true) × (rest ≡ None)
fits_first true rest e = (refl, e)
fits_first false rest e = absurd cc

abbrev Kept : Program → CaptureKind → ℕ → Option Specification → Captures → Type 0
Kept P k v row cs =
    (size : ℕ) →
    (sized P (check_run k) row size + captures_size P.source cs ≡ size + captures_size P.source (capture k v row cs))
    × ((parameters : ℕ) → max (widened (check_run k) row parameters) (keys.parameters_in cs)
    ≡ max parameters (keys.parameters_in (capture k v row cs)))

no_local : (v : ℕ) → v ≢ 0 → key_parameters (7 + v) ≡ 0
no_local v ne = let t : nat_lt (7 + v) 8 ≡ false = grind (arith, nat_tests, ne) in rw t refl

one_kept : (P : Program) (k : CaptureKind) (v : ℕ) (row : Option Specification) (cs : Captures) → v ≢ 0 →
    fits k row ≡ true → Kept P k v row cs
one_kept P kind.Dollar v row cs ne f size = (refl, λ m. refl)
one_kept P kind.Address v row cs ne f size = (refl, λ m. refl)
one_kept P (kind.Splice answer.Value) v (Some (Expression syntax)) cs ne f size = (omega arith, λ m. omega arith)
one_kept P (kind.Splice answer.Void) v (Some (Statement syntax)) cs ne f size = (omega arith, λ m. omega arith)
one_kept P kind.Variable v (Some Local) cs ne f size =
    let none = no_local v ne in (omega arith, λ m. omega (arith, none))
one_kept P kind.Variable v (Some (Param index)) cs ne f size = (omega arith, λ m. omega arith)
one_kept P _ v row cs ne f size = absurd cc

kept_at : (P : Program) (k : CaptureKind) (v : ℕ) (rows : List Specification) (cs : Captures) →
    fits k (numbered v rows) ≡ true → Kept P k v (numbered v rows) cs
kept_at P kind.Dollar v rows cs f size = (refl, λ m. refl)
kept_at P kind.Address v rows cs f size = (refl, λ m. refl)
kept_at P (kind.Splice answer.Value) zero rows cs f size = absurd cc
kept_at P (kind.Splice answer.Void) zero rows cs f size = absurd cc
kept_at P kind.Variable zero rows cs f size = absurd cc
kept_at P k (suc v) rows cs f size = one_kept P k (suc v) (numbered (suc v) rows) cs (omega arith) f size

pub sizes_are : (P : Program) (rows : List Specification) (kinds : List CaptureKind) (vs : List ℕ) (size : ℕ) →
    captures_trap rows kinds vs ≡ None → length vs ≡ length kinds →
    sizes P rows kinds vs size ≡ size + captures_size P.source (captures_of rows kinds vs)
sizes_are P rows [] [] size none e = omega arith
sizes_are P rows [] (v ∷ vs) size none e = absurd (omega (arith, e))
sizes_are P rows (k ∷ kinds) [] size none e = absurd (omega (arith, e))
sizes_are P rows (k ∷ kinds) (v ∷ vs) size none e =
    let h = fits_first (fits k (numbered v rows)) (captures_trap rows kinds vs) none in
    sizes_are P rows kinds vs (sized P (check_run k) (numbered v rows) size) h.1 (omega (arith, e))
    ∙ (kept_at P k v rows (captures_of rows kinds vs) h.0 size).0

pub widths_are : (P : Program) (rows : List Specification) (kinds : List CaptureKind) (vs : List ℕ) (parameters : ℕ) →
    captures_trap rows kinds vs ≡ None → length vs ≡ length kinds →
    widths rows kinds vs parameters ≡ max parameters (keys.parameters_in (captures_of rows kinds vs))
widths_are P rows [] [] parameters none e = omega arith
widths_are P rows [] (v ∷ vs) parameters none e = absurd (omega (arith, e))
widths_are P rows (k ∷ kinds) [] parameters none e = absurd (omega (arith, e))
widths_are P rows (k ∷ kinds) (v ∷ vs) parameters none e =
    let h = fits_first (fits k (numbered v rows)) (captures_trap rows kinds vs) none in
    widths_are P rows kinds vs (widened (check_run k) (numbered v rows) parameters) h.1 (omega (arith, e))
    ∙ (kept_at P k v rows (captures_of rows kinds vs) h.0 0).1 parameters
