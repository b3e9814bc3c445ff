-- What a walk over the captures of a tick has still before it, and what its steps add.
use Rattle.std.proofs.Common.{◌≡◌, ℕ, ◌+◌, ◌-◌, ◌<◌, suc, List, [], ◌∷◌, ◌++◌, length, map, get_or, drop, refl, ap}
use Rattle.std.proofs.Common.{sym, ◌∙◌, arith, length-drop}
use Rattle.std.proofs.Math.Seq.{drop-cons}
use Rattle.std.proofs.lemmas.List.{drop_all}
use Rattle.std.proofs.Common.{add-one, slice_get}
use Rattle.icode_ops.specs.declared.kind.ClosureKind.{ClosureKind}
use Rattle.icode_ops.specs.declared.kind.RunKind.TheVariants as run
use Rattle.icode_ir.specs.declared.build_op.BuildOp.{BuildOp}
use Rattle.icode_ir.specs.declared.build_op.BuildOp.TheVariants as build
use Rattle.typed_tree.specs.declared.expression.Expr.{Expr}
use Rattle.typed_tree.specs.declared.expression.CaptureKind.{CaptureKind}
use Rattle.typed_tree.specs.declared.expression.CaptureKind.TheVariants as kind
use Rattle.typed_tree.specs.View.{expr_view, args_of}
use Rattle.staged_meaning.specs.Program.{tick_size, is_expression}
use Rattle.staged_meaning.specs.Specifications.{kind_of, kinds_of}
use Rattle.tick_lower_spec.specs.Lower.{Addresses, check_run, checking, checking_all, putting, nipping}
use Rattle.tick_lower_spec.specs.Lower.{kind_of_tick, making_ops}
use Rattle.tick_lower_spec.specs.TickPieces.{plain}
use Rattle.lowering_pieces.specs.declared.pieces.Pieces.{Pieces}
use Rattle.lowering_pieces.specs.Steps.{put, op}
use Rattle.lowering_pieces.proofs.Puts.{put_both}

-- the kinds of captures, as the code has them
abbrev pub kinds : List Expr → List CaptureKind
kinds es = kinds_of (args_of (map expr_view es))

-- as many as the code has
pub counted : (es : List Expr) → length (kinds es) ≡ length es
counted [] = refl
counted (e ∷ es) = omega (arith, counted es)

plain_both : (xs ys : List BuildOp) → plain (xs ++ ys) ≡ plain xs ++ plain ys
plain_both [] ys = refl
plain_both (x ∷ xs) ys = ap (λ ps. plain (x ∷ []) ++ ps) (plain_both xs ys)

put_more : (xs ys : List BuildOp) (o : Pieces) → put (plain (xs ++ ys)) o ≡ put (plain ys) (put (plain xs) o)
put_more xs ys o = ap (λ ps. put ps o) (plain_both xs ys) ∙ sym (put_both (plain xs) (plain ys) o)

-- the captures from one on are that one and those behind it
split : {A : Type 0} (xs : List A) (i : ℕ) (x : A) → i < length xs → x ≡ get_or xs i x → drop i xs ≡ x ∷ drop (i + 1) xs
split xs i x low is =
    drop-cons xs i x low
    ∙ ap (λ j. get_or xs i x ∷ drop j xs) (sym (add-one i))
    ∙ ap (λ y. y ∷ drop (i + 1) xs) (sym is)

-- n of them are behind the capture e
pub one_check_more : (es : List Expr) (i : ℕ) (e : Expr) (n : ℕ) (o : Pieces) → i < length es → e ≡ get_or es i e
    → n + (i + 1) ≡ length es
    → put (plain (checking_all (kinds (drop i es)))) o
    ≡ put (plain (checking_all (kinds (drop (i + 1) es))))
    (put (plain (checking (check_run (kind_of (expr_view e))) n)) o)
one_check_more es i e n o low is many =
    let rest = drop (i + 1) es in
    let check = check_run (kind_of (expr_view e)) in
    let above : length (kinds rest) ≡ n = omega (arith, counted rest, length-drop (i + 1) es, many) in
    ap (λ xs. put (plain (checking_all (kinds xs))) o) (split es i e low is)
    ∙ put_more (checking check (length (kinds rest))) (checking_all (kinds rest)) o
    ∙ ap (λ k. put (plain (checking_all (kinds rest))) (put (plain (checking check k)) o)) above

pub one_put_more : (es : List Expr) (i n : ℕ) (o : Pieces) → i < n → n ≡ length (kinds es)
    → put (plain (putting i (drop i (kinds es)))) o
    ≡ put (plain (putting (i + 1) (drop (i + 1) (kinds es)))) (put (plain (build.Pick (n - i) ∷ build.Put i ∷ [])) o)
one_put_more es i n o low many =
    let ks = kinds es in
    let k = get_or ks i kind.Dollar in
    let rest = drop (i + 1) ks in
    let depth : suc (length rest) ≡ n - i = omega (arith, length-drop (i + 1) ks, many, low) in
    ap (λ xs. put (plain (putting i xs)) o)
    (drop-cons ks i kind.Dollar (omega (arith, low, many)) ∙ ap (λ j. k ∷ drop j ks) (sym (add-one i)))
    ∙ put_more (build.Pick (suc (length rest)) ∷ build.Put i ∷ []) (putting (suc i) rest) o
    ∙ ap (λ d. put (plain (putting (suc i) rest)) (put (plain (build.Pick d ∷ build.Put i ∷ [])) o)) depth
    ∙ ap (λ j. put (plain (putting j rest)) (put (plain (build.Pick (n - i) ∷ build.Put i ∷ [])) o)) (sym (add-one i))

pub one_nip_more : (es : List Expr) (i n : ℕ) (o : Pieces) → i < n → n ≡ length (kinds es)
    → put (plain (nipping (drop i (kinds es)))) o ≡ put (plain (nipping (drop (i + 1) (kinds es)))) (op build.Nip o)
one_nip_more es i n o low many =
    let ks = kinds es in
    let k = get_or ks i kind.Dollar in
    ap (λ xs. put (plain (nipping xs)) o)
    (drop-cons ks i kind.Dollar (omega (arith, low, many)) ∙ ap (λ j. k ∷ drop j ks) (sym (add-one i)))
    ∙ put_more (build.Nip ∷ []) (nipping (drop (i + 1) ks)) o

-- behind the last there are none
pub none_behind : (es : List Expr) (n : ℕ) → n ≡ length (kinds es) → drop n (kinds es) ≡ []
none_behind es n many = drop_all n (kinds es) (omega (arith, many))

-- what begins the making, the checks, the new closure, its words, and what takes them away
pub all_made : (begin checks puts nips : List BuildOp) (new : BuildOp) (o : Pieces)
    → put (plain nips) (put (plain puts) (op new (put (plain checks) (put (plain begin) o))))
    ≡ put (plain (begin ++ (checks ++ new ∷ (puts ++ nips)))) o
all_made begin checks puts nips new o =
    let first = put (plain begin) o in
    let second = put (plain checks) first in
    sym (put_more begin (checks ++ new ∷ (puts ++ nips)) o ∙ put_more checks (new ∷ (puts ++ nips)) first
    ∙ put_more (new ∷ []) (puts ++ nips) second ∙ put_more puts nips (op new second))

-- of what the code finds of the tick
pub made_of : (addresses : Addresses) (tick : ℕ) (ks : List CaptureKind) (o begun checked made put_in q : Pieces)
    (size at : ℕ) (shown : ClosureKind) (n : ℕ) → size ≡ tick_size (slice_get addresses.ticks tick)
    → at ≡ addresses.generator_at tick → shown ≡ kind_of_tick (is_expression (slice_get addresses.ticks tick))
    → n ≡ length ks → begun ≡ put (plain (build.Const size ∷ build.Run run.Begin ∷ build.Drop ∷ [])) o
    → checked ≡ put (plain (checking_all ks)) begun → made ≡ op (build.New at shown n) checked
    → put_in ≡ put (plain (putting 0 ks)) made → q ≡ put (plain (nipping ks)) put_in
    → q ≡ put (plain (making_ops addresses tick ks)) o
made_of addresses tick ks o begun checked made put_in q size at shown n h1 h2 h3 h4 h5 h6 h7 h8 h9 =
    let shape = slice_get addresses.ticks tick in
    rw (h9, h8, h7, h6, h5, h4, h3, h2, h1)
    (all_made (build.Const (tick_size shape) ∷ build.Run run.Begin ∷ build.Drop ∷ []) (checking_all ks) (putting 0 ks)
    (nipping ks) (build.New (addresses.generator_at tick) (kind_of_tick (is_expression shape)) (length ks)) o)
