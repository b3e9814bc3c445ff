-- A function that returns 3 is ready to be lowered, and has an image.
use Rattle.std.proofs.Common.{◌≡◌, ℕ, ◌<◌, ◌%◌, List, length, get_or, ap, sym, ◌∙◌, subst, [], ◌∷◌}
use Rattle.std.proofs.Common.{map, refl, arith, lit<, lit≤}
use Rattle.std.specs.List.{All}
use Rattle.std.proofs.lemmas.List.Elements.{All-get_or}
use Rattle.typed_tree.specs.declared.expression.Expr.TheVariants as e
use Rattle.typed_tree.specs.declared.expression.Stmt.TheVariants as st
use Rattle.typed_tree.specs.declared.expression.CaptureKind.{CaptureKind}
use Rattle.typed_tree.specs.declared.program.Function.{Function}
use Rattle.typed_tree.specs.Nodes as node
use Rattle.typed_tree.specs.View.{stmt_view, function_view}
use Rattle.typed_tree.proofs.Views.{view_const, stmt_view_returnvalue}
use Rattle.staged_meaning.specs.Scope.{IsReady, IsReadyIn}
use Rattle.staged_meaning.specs.Size.{size_of}
use Rattle.static_image.specs.Served.{IsStatic, AreStatic}
use Rattle.static_image.specs.Words.{HasWordsStmt}
use Rattle.static_backend.specs.Scanned.{HasMain}

abbrev pub ReturnsThree : Function → Type 0
ReturnsThree f = (f.body ≡ st.ReturnValue (e.Const 3)) × (f.params ≡ 0) × (f.object ≡ 0)

with_body : Function → node.Stmt → node.Function
with_body f b = record { parameters = f.params; object = f.object; body = b }

-- it is ready among the functions of any program
ready_alone : (fs : List node.Function) (captures : List (List CaptureKind)) (f : Function) → ReturnsThree f →
    IsReadyIn fs captures (function_view f)
unfolding with_body
ready_alone fs captures f h =
    let body : stmt_view f.body ≡ node.ReturnValue (node.Const 3) =
    ap stmt_view h.0 ∙ stmt_view_returnvalue (e.Const 3) ∙ ap node.ReturnValue (view_const 3) in
    subst (λ b. IsReadyIn fs captures (with_body f b)) (sym body) (record {
      ready = record {
        built = tt;
        scoped = tt;
        values = (refl, tt);
        placed = tt;
        small = lit≤ tt;
        dense = lit≤ tt;
      };
      calls = tt;
      ticks_are = tt;
      frames = tt;
      headed = (h.1, tt);
      few = omega (arith, h.1);
      short = omega (arith, h.2);
      whole = ap (λ n. n % 4) h.2;
    })

static_return : (fs : List node.Function) (f : Function) → ReturnsThree f → IsStatic fs [] (function_view f)
static_return fs f h =
    let body : stmt_view f.body ≡ node.ReturnValue (node.Const 3) =
    ap stmt_view h.0 ∙ stmt_view_returnvalue (e.Const 3) ∙ ap node.ReturnValue (view_const 3) in
    record { ready = ready_alone fs [] f h; words = subst HasWordsStmt (sym body) (lit< tt) }

pub ready_item : (list : List Function) (i : ℕ) (f : Function) → i < length list → f ≡ get_or list i f →
    All ReturnsThree list → IsReady (function_view f)
ready_item list i f h is all =
    subst (λ g. IsReady (function_view g)) (sym is)
    (ready_alone [] [] (get_or list i f) (All-get_or ReturnsThree list i f h all)).ready

-- two of them are such as an image is made of
size_two : (f : Function) → ReturnsThree f → size_of (function_view f) ≡ 2
unfolding with_body
size_two f h =
    let body : stmt_view f.body ≡ node.ReturnValue (node.Const 3) =
    ap stmt_view h.0 ∙ stmt_view_returnvalue (e.Const 3) ∙ ap node.ReturnValue (view_const 3) in
    ap (λ b. size_of (with_body f b)) body

pub are_static : (fs : List Function) → All ReturnsThree fs → length fs ≡ 2 →
    (captures : List (List CaptureKind)) × AreStatic (map function_view fs) captures []
are_static (f ∷ g ∷ []) all two =
    let here = All-get_or ReturnsThree (f ∷ g ∷ []) 0 f (omega arith) all in
    let there = All-get_or ReturnsThree (f ∷ g ∷ []) 1 g (omega arith) all in
    let fs = map function_view (f ∷ g ∷ []) in (
      [],
      record {
        each = (static_return fs f here, (static_return fs g there, tt));
        as_many = refl;
        sizes = λ tick. omega arith;
        few = λ tick kinds h. absurd cc;
        written = λ starts low. tt;
        room = omega (arith, size_two f here, size_two g there);
      },
    )
are_static [] all two = absurd (omega (arith, two))
are_static (f ∷ []) all two = absurd (omega (arith, two))
are_static (f ∷ g ∷ h ∷ fs) all two = absurd (omega (arith, two))

pub has_second : (fs : List Function) → All ReturnsThree fs → length fs ≡ 2 → HasMain 2 (map function_view fs)
has_second (f ∷ g ∷ []) all two =
    let there = All-get_or ReturnsThree (f ∷ g ∷ []) 1 g (omega arith) all in
    (function_view g, refl, there.1)
has_second [] all two = absurd (omega (arith, two))
has_second (f ∷ []) all two = absurd (omega (arith, two))
has_second (f ∷ g ∷ h ∷ fs) all two = absurd (omega (arith, two))
