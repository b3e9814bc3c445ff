-- The pieces of an expression that stands right in a tick and is of the list's nodes: the arguments of their ops are
-- words, and each capture that they name is one that a closure has room for.
use Rattle.std.proofs.Common.{◌≡◌, ℕ, zero, suc, ◌+◌, ◌-◌, ◌<◌, ◌≤◌, Bool, true, false, ◌&&◌, nat_lt, nat_le, List}
use Rattle.std.proofs.Common.{[], ◌∷◌, ◌++◌, length, Some, slice_get, refl, sym, ap, ◌∙◌, arith}
use Rattle.std.specs.List.{list_all}
use Rattle.std.proofs.lemmas.Bool.Decides.{nat_tests}
use Rattle.limits.specs.declared.ops.TheConstants.{MOST_CAPTURES}
use Rattle.limits.specs.declared.program.TheConstants.{MOST_ARGUMENTS}
use Rattle.word32.specs.declared.width.Width.{Width}
use Rattle.word32.specs.declared.width.Width.TheVariants as width
use Rattle.icode_ops.specs.Kinds.{bin_number, un_number}
use Rattle.icode_ops.specs.declared.kind.BinKind.{BinKind}
use Rattle.icode_ops.specs.declared.kind.BinKind.TheVariants as bin
use Rattle.icode_ops.specs.declared.kind.UnKind.{UnKind}
use Rattle.icode_ops.specs.declared.kind.UnKind.TheVariants as un
use Rattle.icode_ir.specs.Codes.{width_number}
use Rattle.icode_ir.specs.Sound.{Each}
use Rattle.icode_ir.proofs.Sounds.{Each-append}
use Rattle.typed_tree.specs.declared.expression.Answer.{Answer}
use Rattle.typed_tree.specs.declared.expression.Answer.TheVariants as answer
use Rattle.typed_tree.specs.declared.expression.CaptureKind.{CaptureKind}
use Rattle.typed_tree.specs.declared.expression.Library.TheVariants as library
use Rattle.typed_tree.specs.Nodes as node
use Rattle.typed_tree.specs.Nodes.{Expr, Args, fold_args, has_value, count}
use Rattle.wellformed.specs.Places.{Around, in_function, is_function, in_scope, are_few, takes, captured, captured_in}
use Rattle.wellformed.specs.Places.{kind_at, is_word, is_variable, is_splice, expr_rule}
use Rattle.wellformed.proofs.Bools.{first_true, second_true}
use Rattle.wf_ready.proofs.Scoped.{part, two}
use Rattle.staged_meaning.specs.Size.{labels_in, labels_in_args, temps_in, temps_in_args}
use Rattle.tick_lower_spec.specs.Lower.{Addresses, narrowing, dropping, dropping_call, keeping, kept, joins}
use Rattle.tick_lower_spec.specs.TickPieces.{plain, own, expr_pieces, args_pieces}
use Rattle.tick_lower_spec.specs.declared.piece.Piece.{Piece}
use Rattle.routine_spec.specs.Generator.{HasRoom}
use Rattle.tree_words.specs.Words.{has_words_expr, have_words_args}

pub listed_word : (n : ℕ) → nat_lt n 4294967296 ≡ true → n < 4294967296
listed_word n h = grind (arith, nat_tests)

-- the argument that an op doesn't have
pub none : 0 < 4294967296
none = omega arith

-- ---- the numbers of kinds

pub bin_fits : (k : BinKind) → bin_number k < 4294967296
bin_fits bin.Add = omega arith
bin_fits bin.Subtract = omega arith
bin_fits bin.Multiply = omega arith
bin_fits bin.DivideSigned = omega arith
bin_fits bin.DivideUnsigned = omega arith
bin_fits bin.RemainderSigned = omega arith
bin_fits bin.RemainderUnsigned = omega arith
bin_fits bin.And = omega arith
bin_fits bin.Or = omega arith
bin_fits bin.Xor = omega arith
bin_fits bin.ShiftLeft = omega arith
bin_fits bin.ShiftRightSigned = omega arith
bin_fits bin.ShiftRightUnsigned = omega arith
bin_fits bin.Equal = omega arith
bin_fits bin.NotEqual = omega arith
bin_fits bin.LessSigned = omega arith
bin_fits bin.LessUnsigned = omega arith
bin_fits bin.LessOrEqualSigned = omega arith
bin_fits bin.LessOrEqualUnsigned = omega arith
bin_fits bin.GreaterSigned = omega arith
bin_fits bin.GreaterUnsigned = omega arith
bin_fits bin.GreaterOrEqualSigned = omega arith
bin_fits bin.GreaterOrEqualUnsigned = omega arith

un_fits : (k : UnKind) → un_number k < 4294967296
un_fits un.Negate = omega arith
un_fits un.Complement = omega arith
un_fits un.IsZero = omega arith
un_fits un.SignedByte = omega arith
un_fits un.Byte = omega arith
un_fits un.SignedHalf = omega arith
un_fits un.Half = omega arith

pub width_fits : (w : Width) → width_number w < 4294967296
width_fits width.SignedByte = omega arith
width_fits width.Byte = omega arith
width_fits width.SignedHalf = omega arith
width_fits width.Half = omega arith
width_fits width.Word = omega arith

-- ---- arguments of calls

as_many : (args : Args) → length (fold_args expr_rule args) ≡ count args
as_many node.NoArg = refl
as_many (node.Arg e args) = ap suc (as_many args)

few_of : (n : ℕ) → are_few n ≡ true → n < 4294967296
few_of n h = let few : n ≤ MOST_ARGUMENTS = grind (arith, nat_tests) in omega (arith, few)

few_args : (args : Args) → are_few (length (fold_args expr_rule args)) ≡ true → count args < 4294967296
few_args args h = few_of (count args) (ap are_few (sym (as_many args)) ∙ h)

-- ---- pieces that name no part

abbrev pub Rooms : List Piece → Type 0
Rooms ps = Each HasRoom ps

pub beside : (ps qs : List Piece) → Rooms ps → Rooms qs → Rooms (ps ++ qs)
beside ps qs f g = Each-append HasRoom ps qs f g

pub narrow : (w : Width) → Rooms (plain (narrowing w))
narrow width.SignedByte = ((un_fits un.SignedByte, none), tt)
narrow width.Byte = ((un_fits un.Byte, none), tt)
narrow width.SignedHalf = ((un_fits un.SignedHalf, none), tt)
narrow width.Half = ((un_fits un.Half, none), tt)
narrow width.Word = tt

pub drops : (left : Bool) → Rooms (plain (dropping left))
drops true = ((none, none), tt)
drops false = tt

pub own_drops : (left : Bool) → Rooms (own (dropping left))
own_drops true = ((none, none), tt)
own_drops false = (tt, tt)

call_drops : (r : Answer) → Rooms (plain (dropping_call r))
call_drops answer.Value = tt
call_drops answer.Void = ((none, none), tt)

keeps : (left : Bool) (t : ℕ) → t < 4294967296 → Rooms (plain (keeping left t))
keeps true t low = ((low, none), ((none, none), tt))
keeps false t low = tt

back : (left : Bool) (t : ℕ) → t < 4294967296 → Rooms (plain (kept left t))
back true t low = ((low, none), tt)
back false t low = tt

meets : (first other l m t : ℕ) → first < 4294967296 → other < 4294967296 → l < 4294967296 → m < 4294967296 →
    t < 4294967296 → Rooms (plain (joins first other l m t))
meets first other l m t x y here there mine = (
  (x, none),
  (
    (mine, none),
    (
      (none, none),
      (
        (there, none),
        (
          (here, none),
          (
            (y, none),
            (
              (mine, none),
              (
                (none, none),
                ((there, none), ((mine, none), tt)),
              ),
            ),
          ),
        ),
      ),
    ),
  ),
)

-- ---- captures

held : (is : CaptureKind → Bool) (kinds : List CaptureKind) (i : ℕ) → kind_at is (slice_get kinds i) ≡ true →
    i < length kinds
held is [] i h = absurd cc
held is (k ∷ kinds) zero h = omega arith
held is (k ∷ kinds) (suc i) h = omega (arith, held is kinds i h)

-- ---- in a tick that captures these kinds

module _ (addresses : Addresses) (placed : (f : ℕ) → addresses.function_at f < 4294967296) (kinds : List CaptureKind)
    (few : length kinds ≤ MOST_CAPTURES) (a : Around) (is : a.captures ≡ Some kinds)
    (seen : (i : ℕ) → in_scope i a ≡ true → i < 4294967296) where
  no_function : in_function a ≡ true → ⊥
  no_function h = let none : in_function a ≡ false = ap is_function is in cc

  named : (p : CaptureKind → Bool) (i : ℕ) → captured p i a ≡ true → i < MOST_CAPTURES
  named p i h =
      let there : captured_in p i (Some kinds) ≡ true = ap (captured_in p i) (sym is) ∙ h in
      omega (arith, held p kinds i there, few)

  mutual
    pub expr_written : (e : Expr) (l t : ℕ) → (part e).stands a ≡ true → has_words_expr e ≡ true →
        l + labels_in e ≤ 4294967296 → t + temps_in e ≤ 4294967296 → Rooms (expr_pieces addresses e l t)
    expr_written (node.Const w) l t s d low room = ((listed_word w d, none), tt)
    expr_written (node.Captured w i) l t s d low room = (named (is_word w) i s, tt)
    expr_written (node.Var i) l t s d low room = ((seen i s, none), tt)
    expr_written (node.SetVar i e) l t s d low room =
        let q = two (in_scope i a) ((part e).stands a) s in
        beside _ _ (expr_written e l t q.1 d low room) ((seen i q.0, none), tt)
    expr_written (node.PostVar i w step) l t s d low room = (
      (seen i s, none),
      (
        (none, none),
        (
          (listed_word step d, none),
          ((bin_fits bin.Add, none), beside (plain (narrowing w)) _ (narrow w) ((seen i s, none), ((none, none), tt))),
        ),
      ),
    )
    expr_written (node.VGet i) l t s d low room = (named is_variable i s, tt)
    expr_written (node.VSet i e) l t s d low room =
        let q = two (captured is_variable i a) ((part e).stands a) s in
        beside _ _ (expr_written e l t q.1 d low room) (named is_variable i q.0, tt)
    expr_written (node.VPost i step) l t s d low room =
        let key = named is_variable i s in
        (key, ((none, none), ((listed_word step d, none), ((bin_fits bin.Add, none), (key, ((none, none), tt))))))
    expr_written (node.Frame offset) l t s d low room =
        absurd (no_function (first_true (in_function a) _ (first_true _ _ s)))
    expr_written (node.Load w e) l t s d low room =
        beside _ _ (expr_written e l t s d low room) ((width_fits w, none), tt)
    expr_written (node.Store w e f) l t s d low room =
        let q = two ((part e).stands a) ((part f).stands a) s in
        let k = two (has_words_expr e) (has_words_expr f) d in
        beside _ _ (expr_written e l t q.0 k.0 (omega (arith, low)) (omega (arith, room)))
        (beside _ _
        (expr_written f (l + labels_in e) (t + temps_in e) q.1 k.1 (omega (arith, low)) (omega (arith, room)))
        ((width_fits w, none), tt))
    expr_written (node.Modify w op e f) l t s d low room =
        let q = two ((part e).stands a) ((part f).stands a) s in
        let k = two (has_words_expr e) (has_words_expr f) d in
        beside _ _ (expr_written e l t q.0 k.0 (omega (arith, low)) (omega (arith, room))) (
          (none, none),
          (
            (width_fits w, none),
            beside _ _
                (expr_written f (l + labels_in e) (t + temps_in e) q.1 k.1 (omega (arith, low)) (omega (arith, room)))
                ((bin_fits op, none), beside (plain (narrowing w)) _ (narrow w) ((width_fits w, none), tt)),
          ),
        )
    expr_written (node.Post w step e) l t s d low room =
        let k = two (nat_lt step 4294967296) (has_words_expr e) d in
        beside _ _ (expr_written e l t s k.1 low room) (
          (none, none),
          (
            (width_fits w, none),
            (
              (omega arith, none),
              (
                (omega arith, none),
                (
                  (listed_word step k.0, none),
                  (
                    (bin_fits bin.Add, none),
                    beside (plain (narrowing w)) _ (narrow w)
                        ((width_fits w, none), ((none, none), ((none, none), tt))),
                  ),
                ),
              ),
            ),
          ),
        )
    expr_written (node.Bin op e f) l t s d low room =
        let q = two ((part e).stands a) ((part f).stands a) s in
        let k = two (has_words_expr e) (has_words_expr f) d in
        beside _ _ (expr_written e l t q.0 k.0 (omega (arith, low)) (omega (arith, room)))
        (beside _ _
        (expr_written f (l + labels_in e) (t + temps_in e) q.1 k.1 (omega (arith, low)) (omega (arith, room)))
        ((bin_fits op, none), tt))
    expr_written (node.Un op e) l t s d low room =
        beside _ _ (expr_written e l t s d low room) ((un_fits op, none), tt)
    expr_written (node.And e f) l t s d low room =
        let q = two ((part e).stands a) ((part f).stands a) s in
        let k = two (has_words_expr e) (has_words_expr f) d in
        let here : l < 4294967296 = omega (arith, low) in
        let there : l + 1 < 4294967296 = omega (arith, low) in
        let mine : t < 4294967296 = omega (arith, room) in
        beside _ _ (expr_written e (l + 2) (t + 1) q.0 k.0 (omega (arith, low)) (omega (arith, room))) (
          (here, none),
          beside _ _
              (expr_written f (l + 2 + labels_in e) (t + 1 + temps_in e) q.1 k.1 (omega (arith, low)) (omega
              (arith, room)))
              ((here, none), meets 1 0 l (l + 1) t (omega arith) none here there mine),
        )
    expr_written (node.Or e f) l t s d low room =
        let q = two ((part e).stands a) ((part f).stands a) s in
        let k = two (has_words_expr e) (has_words_expr f) d in
        let here : l < 4294967296 = omega (arith, low) in
        let there : l + 1 < 4294967296 = omega (arith, low) in
        let mine : t < 4294967296 = omega (arith, room) in
        beside _ _ (expr_written e (l + 2) (t + 1) q.0 k.0 (omega (arith, low)) (omega (arith, room))) (
          (here, none),
          beside _ _
              (expr_written f (l + 2 + labels_in e) (t + 1 + temps_in e) q.1 k.1 (omega (arith, low)) (omega
              (arith, room)))
              ((here, none), meets 0 1 l (l + 1) t none (omega arith) here there mine),
        )
    expr_written (node.Cond c e f) l t s d low room =
        let q = two ((part c).stands a) ((part e).stands a && (part f).stands a) s in
        let r = two ((part e).stands a) ((part f).stands a) q.1 in
        let k = two (has_words_expr c && has_words_expr e) (has_words_expr f) d in
        let j = two (has_words_expr c) (has_words_expr e) k.0 in
        let here : l < 4294967296 = omega (arith, low) in
        let there : l + 1 < 4294967296 = omega (arith, low) in
        let mine : t < 4294967296 = omega (arith, room) in
        beside _ _ (expr_written c (l + 2) (t + 1) q.0 j.0 (omega (arith, low)) (omega (arith, room))) (
          (here, none),
          beside _ _
              (expr_written e (l + 2 + labels_in c) (t + 1 + temps_in c) r.0 j.1 (omega (arith, low)) (omega
              (arith, room)))
              (beside (plain (keeping (has_value e) t)) _ (keeps (has_value e) t mine) (
                (there, none),
                (
                  (here, none),
                  beside _ _
                      (expr_written f (l + 2 + labels_in c + labels_in e) (t + 1 + temps_in c + temps_in e) r.1 k.1
                      (omega (arith, low)) (omega (arith, room)))
                      (beside (plain (keeping (has_value e) t)) _ (keeps (has_value e) t mine)
                      ((there, none), back (has_value e) t mine)),
                ),
              )),
        )
    expr_written (node.Comma e f) l t s d low room =
        let q = two ((part e).stands a) ((part f).stands a) s in
        let k = two (has_words_expr e) (has_words_expr f) d in
        beside _ _ (expr_written e l t q.0 k.0 (omega (arith, low)) (omega (arith, room)))
        (beside (own (dropping (has_value e))) _ (own_drops (has_value e))
        (expr_written f (l + labels_in e) (t + temps_in e) q.1 k.1 (omega (arith, low)) (omega (arith, room))))
    expr_written (node.Void e) l t s d low room =
        beside _ _ (expr_written e l t s d low room) (own_drops (has_value e))
    expr_written (node.Call r f args) l t s d low room =
        let n : ℕ = length (fold_args expr_rule args) in
        let front : Bool = nat_le 1 f && takes n (slice_get a.functions (f - 1)) in
        let q = two (front && are_few n) (list_all (λ p. p.stands a) (fold_args expr_rule args)) s in
        let small : are_few n ≡ true = second_true front (are_few n) q.0 in
        beside _ _ (args_written args l t q.1 d low room) ((placed f, few_args args small), call_drops r)
    expr_written (node.CallNumber r e args) l t s d low room =
        let n : ℕ = length (fold_args expr_rule args) in
        let q = two ((part e).stands a && are_few n) (list_all (λ p. p.stands a) (fold_args expr_rule args)) s in
        let v = two ((part e).stands a) (are_few n) q.0 in
        let k = two (has_words_expr e) (have_words_args args) d in
        beside _ _ (expr_written e l t v.0 k.0 (omega (arith, low)) (omega (arith, room)))
        (beside _ _
        (args_written args (l + labels_in e) (t + temps_in e) q.1 k.1 (omega (arith, low)) (omega (arith, room)))
        ((few_args args v.1, none), call_drops r))
    expr_written node.Getchar l t s d low room = ((none, none), ((omega arith, none), tt))
    expr_written (node.Lib library.Putchar e) l t s d low room =
        beside _ _ (expr_written e l t s d low room) ((omega arith, none), tt)
    expr_written (node.Lib library.Putint e) l t s d low room =
        beside _ _ (expr_written e l t s d low room) ((omega arith, none), ((none, none), tt))
    expr_written (node.Lib library.Exit e) l t s d low room =
        beside _ _ (expr_written e l t s d low room) ((omega arith, none), ((none, none), tt))
    expr_written (node.Lib library.Malloc e) l t s d low room =
        beside _ _ (expr_written e l t s d low room) ((omega arith, none), tt)
    expr_written (node.Tick j args) l t s d low room =
        let all : Bool = list_all (λ p. p.is_capture a) (fold_args expr_rule args) in
        absurd (no_function (first_true (in_function a) all (first_true (in_function a && all) _ s)))
    expr_written (node.Capture k e) l t s d low room = absurd cc
    expr_written (node.Splice r i) l t s d low room = (named (is_splice r) i s, tt)
    expr_written (node.Compile e) l t s d low room = absurd cc
    expr_written node.Local l t s d low room = absurd (no_function s)
    expr_written (node.ParamOf e) l t s d low room = absurd (no_function (first_true (in_function a) _ s))

    args_written : (args : Args) (l t : ℕ) → list_all (λ p. p.stands a) (fold_args expr_rule args) ≡ true →
        have_words_args args ≡ true → l + labels_in_args args ≤ 4294967296 → t + temps_in_args args ≤ 4294967296 →
        Rooms (args_pieces addresses args l t)
    args_written node.NoArg l t s d low room = tt
    args_written (node.Arg e args) l t s d low room =
        let q = two ((part e).stands a) (list_all (λ p. p.stands a) (fold_args expr_rule args)) s in
        let k = two (has_words_expr e) (have_words_args args) d in
        beside _ _ (expr_written e l t q.0 k.0 (omega (arith, low)) (omega (arith, room)))
        (args_written args (l + labels_in e) (t + temps_in e) q.1 k.1 (omega (arith, low)) (omega (arith, room)))
