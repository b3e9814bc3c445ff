-- The evaluation of an expression that stands right in a function or a tick keeps the rows of specifications known.
use Rattle.std.proofs.Common.{◌≡◌, ℕ, suc, ◌-◌, Bool, true, false, ◌&&◌, nat_le, List}
use Rattle.std.proofs.Common.{length}
use Rattle.std.proofs.Common.{Option, Some, None, slice_get, refl, sym, ap, ◌∙◌, subst}
use Rattle.std.specs.List.{list_all}
use Rattle.word32.specs.Parts.{narrowed}
use Rattle.word32.specs.Words.{sum}
use Rattle.word32.specs.declared.width.Width.{Width}
use Rattle.history.specs.Syntax.{Syntax}
use Rattle.history.specs.Events.{Next, Given, AtEnd, Failing, next_byte}
use Rattle.icode_ops.specs.declared.kind.BinKind.{BinKind}
use Rattle.meaning_state.specs.Operators.{bin_value, bin_trap, un_value}
use Rattle.meaning_state.specs.Shared.{Shared, Specification, Expression, Statement, Local, Param, Read, Got, Failed}
use Rattle.meaning_state.specs.Shared.{read}
use Rattle.meaning_state.specs.Shared.{get_byte, byte_answer, put_byte, put_number, access_trap, loaded, stored, malloc}
use Rattle.meaning_state.specs.Shared.{malloc_answer}
use Rattle.meaning_state.specs.Rows.{numbered, table_trap, arena_trap, next_function}
use Rattle.meaning_state.specs.Rows.{made}
use Rattle.typed_tree.specs.declared.expression.Answer.{Answer}
use Rattle.typed_tree.specs.declared.expression.Library.TheVariants as library
use Rattle.typed_tree.specs.Nodes as node
use Rattle.typed_tree.specs.Nodes.{Expr, Args, fold_args, count}
use Rattle.wellformed.specs.Places.{Around, Part, in_function, in_scope, are_few, takes, captured, is_variable}
use Rattle.wellformed.specs.Places.{expr_rule}
use Rattle.wellformed.specs.Places.{is_tick, kinds_at, same_kinds, same_kind, same_answer}
use Rattle.wellformed.specs.Places as places
use Rattle.wellformed.specs.Program.{IsProgram}
use Rattle.wellformed.proofs.Bools.{first_true, second_true}
use Rattle.wf_ready.proofs.Scoped.{part, two}
use Rattle.wf_ready.proofs.Ticks.{kinds_there, as_listed}
use Rattle.staged_meaning.specs.Program.{Program, callee_at, call_trap, syntax_size}
use Rattle.staged_meaning.specs.Specifications.{kinds_of, compile_syntax}
use Rattle.staged_meaning.specs.Specifications.{compile_row, compile_number}
use Rattle.staged_meaning.specs.Expressions.{Context, eval, eval_args, load_at, stored_with, store_at, modify_at}
use Rattle.staged_meaning.specs.Expressions.{post_at}
use Rattle.staged_meaning.specs.Expressions.{answered, call_numbered, left_by}
use Rattle.staged_meaning.specs.World.{World, spend, spend_all, with_shared}
use Rattle.staged_meaning.specs.World.{with_variable, with_generated}
use Rattle.known_closures_proof.specs.Known.{IsMeaning, IsCode, AreKnown}
use Rattle.known_closures_proof.proofs.Keeping.{Keeps, KeepsLength, then_keeps, lists_keep, one_before, before_list}
use Rattle.known_closures_proof.proofs.Keeping.{spend_keeps}
use Rattle.known_closures_proof.proofs.Keeping.{unless_keeps, zero_keeps, all_spent}
use Rattle.known_closures_proof.proofs.Making.{known_same, row_code, specify_keeps, parameter_keeps, tick_keeps}
use Rattle.known_closures_proof.proofs.Making.{malloc_known, known_made}

as_many : (args : Args) → count args ≡ length (kinds_of args)
as_many node.NoArg = refl
as_many (node.Arg e args) = ap suc (as_many args)

module _ (p : node.Program) (accepted : IsProgram p) (program : Program) (meaning : IsMeaning p program) where
  abbrev Known : Shared → Type 0
  Known = AreKnown p accepted

  -- ---- what changes no row

  stored_keeps : (width : Width) (at value left : ℕ) (w : World) → Known w.shared
      → Keeps Known (stored_with width at value left w)
  stored_keeps width at value left w k =
      spend_keeps Known left (with_shared (stored at width value w.shared) w)
      (known_same p accepted w.shared (stored at width value w.shared) refl refl refl k)

  load_keeps : (width : Width) (at : ℕ) (w : World) → Known w.shared → Keeps Known (load_at width at w)
  load_keeps width at w k =
      unless_keeps Known (access_trap at width) w (spend (loaded at width w.shared) w) k
      (λ none. spend_keeps Known (loaded at width w.shared) w k)

  store_keeps : (width : Width) (at value : ℕ) (w : World) → Known w.shared → Keeps Known (store_at width at value w)
  store_keeps width at value w k =
      unless_keeps Known (access_trap at width) w (stored_with width at value value w) k
      (λ none. stored_keeps width at value value w k)

  modify_keeps : (width : Width) (op : BinKind) (at old value : ℕ) (w : World) → Known w.shared
      → Keeps Known (modify_at width op at old value w)
  modify_keeps width op at old value w k =
      let new : ℕ = narrowed width (bin_value op old value) in
      unless_keeps Known (bin_trap op old value) w (stored_with width at new new w) k
      (λ none. stored_keeps width at new new w k)

  post_keeps : (width : Width) (step at : ℕ) (w : World) → Known w.shared → Keeps Known (post_at width step at w)
  post_keeps width step at w k =
      let old : ℕ = loaded at width w.shared in
      unless_keeps Known (access_trap at width) w (stored_with width at (narrowed width (sum old step)) old w) k
      (λ none. stored_keeps width at (narrowed width (sum old step)) old w k)

  abbrev ReadKnown : Read → Type 0
  ReadKnown (Got x shared) = Known shared
  ReadKnown Failed = Unit {0}

  read_known : (n : Next) (s : Shared) → Known s → ReadKnown (read n s)
  read_known (Given b rest) s k = known_same p accepted s _ refl refl refl k
  read_known AtEnd s k = known_same p accepted s _ refl refl refl k
  read_known Failing s k = tt

  answered_keeps : (r : Read) (w : World) → Known w.shared → ReadKnown r → Keeps Known (answered r w)
  answered_keeps (Got x shared) w k known = spend_keeps Known x (with_shared shared w) known
  answered_keeps Failed w k known = k

  compile_keeps : (syntax : Syntax) (w : World) → IsCode p accepted syntax → Known w.shared
      → Keeps Known (compile_syntax program syntax w)
  compile_keeps syntax w is k =
      let size : ℕ = syntax_size program syntax in
      let function : ℕ = next_function (length program.functions) w.shared in
      unless_keeps Known (table_trap function) w _ k
      (λ none. unless_keeps Known (arena_trap size w.shared) w _ k
      (λ none. then_keeps Known (spend_all size w) _ (all_spent Known size w k)
      (λ flow w k. spend_keeps Known function (with_shared (made function syntax size w.shared) w)
      (known_made p accepted function size syntax w.shared is k))))

  row_keeps : (number : ℕ) (o : Option Specification) (w : World) → numbered number w.shared.specifications ≡ o
      → Known w.shared → Keeps Known (compile_row program o w)
  row_keeps number (Some (Expression syntax)) w at k =
      compile_keeps syntax w (row_code p accepted w.shared k number true syntax at) k
  row_keeps number (Some (Statement syntax)) w at k =
      compile_keeps syntax w (row_code p accepted w.shared k number false syntax at) k
  row_keeps number (Some Local) w at k = k
  row_keeps number (Some (Param index)) w at k = k
  row_keeps number None w at k = k

  number_keeps : (number : ℕ) (w : World) → Known w.shared → Keeps Known (compile_number program number w)
  number_keeps number w k = row_keeps number (numbered number w.shared.specifications) w refl k

  -- what stands round an evaluation keeps them
  pub record Good (c : Context) : Type 0 where
    pub same : c.program ≡ program
    pub call : (f : ℕ) (vs : List ℕ) (w : World) → Known w.shared → Keeps Known (c.call f vs w)
    pub splice : (i : ℕ) (w : World) → Known w.shared → Keeps Known (c.splice i w)

  -- a value and a place of a variable are spent
  value : (v : ℕ) (w : World) → Known w.shared → Keeps Known (spend v w)
  value v w k = spend_keeps Known v w k

  module _ (a : Around) (ticks : a.ticks ≡ accepted.captures) (c : Context) (good : Good c) where
    -- the captures of a tick that a list of captures is for
    tick_there : (t : ℕ) (args : Args) → is_tick t (fold_args expr_rule args) a ≡ true
        → slice_get accepted.captures t ≡ Some (kinds_of args)
    tick_there t args h =
        let ps : List Part = fold_args expr_rule args in
        let front : Bool = in_function a && list_all (λ p. p.is_capture a) ps in
        let all = second_true (in_function a) (list_all (λ p. p.is_capture a) ps)
        (first_true front (kinds_at (places.kinds_of ps) (slice_get a.ticks t)) h) in
        let here = second_true front (kinds_at (places.kinds_of ps) (slice_get a.ticks t)) h in
        ap (λ z. slice_get z t) (sym ticks)
        ∙ (kinds_there (places.kinds_of ps) (slice_get a.ticks t) here ∙ ap Some (as_listed a args all))

    call_keeps : (r : Answer) (f : ℕ) (vs : List ℕ) (w : World) → Known w.shared
        → Keeps Known (call_numbered c r f vs w)
    call_keeps r f vs w k =
        unless_keeps Known (call_trap (callee_at c.program w.shared.bodies f) (length vs)) w _ k
        (λ none. then_keeps Known (c.call f vs w) _ (good.call f vs w k) (λ v w k. value (left_by r v) w k))

    mutual
      pub eval_keeps : (e : Expr) → (part e).stands a ≡ true → (w : World) → Known w.shared → Keeps Known (eval c e w)
      eval_keeps (node.Const x) h w k =
          value x w k
      eval_keeps (node.Captured x i) h w k =
          value _ w k
      eval_keeps (node.Var i) h w k =
          value (w.variables i) w k
      eval_keeps (node.SetVar i e) h w k =
          then_keeps Known (eval c e w) _ (eval_keeps e (second_true (in_scope i a) ((part e).stands a) h) w k)
          (λ v w k. spend_keeps Known v (with_variable i v w) k)
      eval_keeps (node.PostVar i x step) h w k =
          spend_keeps Known (w.variables i) (with_variable i _ w) k
      eval_keeps (node.VGet i) h w k =
          value _ w k
      eval_keeps (node.VSet i e) h w k =
          then_keeps Known (eval c e w) _ (eval_keeps e (second_true (captured is_variable i a)
          ((part e).stands a) h) w k) (λ v w k. spend_keeps Known v (with_generated _ v w) k)
      eval_keeps (node.VPost i step) h w k =
          spend_keeps Known _ (with_generated _ _ w) k
      eval_keeps (node.Frame offset) h w k =
          value _ w k
      eval_keeps (node.Load x e) h w k =
          then_keeps Known (eval c e w) _ (eval_keeps e h w k) (λ v w k. load_keeps x v w k)
      eval_keeps (node.Store x e f) h w k =
          let q = two ((part e).stands a) ((part f).stands a) h in
          then_keeps Known (eval c e w) _ (eval_keeps e q.0 w k) (λ at w k. then_keeps Known (eval c f w) _
          (eval_keeps f q.1 w k) (λ v w k. store_keeps x at v w k))
      eval_keeps (node.Modify x op e f) h w k =
          let q = two ((part e).stands a) ((part f).stands a) h in
          then_keeps Known (eval c e w) _ (eval_keeps e q.0 w k) (λ at w k. unless_keeps Known (access_trap at x) w _ k
          (λ none. then_keeps Known (eval c f w) _ (eval_keeps f q.1 w k) (λ v w k. modify_keeps x op at _ v w k)))
      eval_keeps (node.Post x step e) h w k =
          then_keeps Known (eval c e w) _ (eval_keeps e h w k) (λ v w k. post_keeps x step v w k)
      eval_keeps (node.Bin op e f) h w k =
          let q = two ((part e).stands a) ((part f).stands a) h in
          then_keeps Known (eval c e w) _ (eval_keeps e q.0 w k) (λ x w k. then_keeps Known (eval c f w) _
          (eval_keeps f q.1 w k) (λ y w k. unless_keeps Known (bin_trap op x y) w _ k (λ none. value _ w k)))
      eval_keeps (node.Un op e) h w k =
          then_keeps Known (eval c e w) _ (eval_keeps e h w k) (λ x w k. value (un_value op x) w k)
      eval_keeps (node.And e f) h w k =
          let q = two ((part e).stands a) ((part f).stands a) h in
          then_keeps Known (eval c e w) _ (eval_keeps e q.0 w k) (λ x w k. zero_keeps Known x _ _ (value 0 w k)
          (then_keeps Known (eval c f w) _ (eval_keeps f q.1 w k) (λ y w k. zero_keeps Known y _ _ (value 0 w k)
          (value 1 w k))))
      eval_keeps (node.Or e f) h w k =
          let q = two ((part e).stands a) ((part f).stands a) h in
          then_keeps Known (eval c e w) _ (eval_keeps e q.0 w k) (λ x w k. zero_keeps Known x _ _
          (then_keeps Known (eval c f w) _ (eval_keeps f q.1 w k) (λ y w k. zero_keeps Known y _ _ (value 0 w k)
          (value 1 w k))) (value 1 w k))
      eval_keeps (node.Cond t e f) h w k =
          let q = two ((part t).stands a) ((part e).stands a && (part f).stands a) h in
          let r = two ((part e).stands a) ((part f).stands a) q.1 in
          then_keeps Known (eval c t w) _ (eval_keeps t q.0 w k) (λ v w k. zero_keeps Known v _ _
          (then_keeps Known (eval c f w) _ (eval_keeps f r.1 w k) (λ x w k. value x w k))
          (then_keeps Known (eval c e w) _ (eval_keeps e r.0 w k) (λ x w k. value x w k)))
      eval_keeps (node.Comma e f) h w k =
          let q = two ((part e).stands a) ((part f).stands a) h in
          then_keeps Known (eval c e w) _ (eval_keeps e q.0 w k) (λ x w k. eval_keeps f q.1 w k)
      eval_keeps (node.Void e) h w k =
          then_keeps Known (eval c e w) _ (eval_keeps e h w k) (λ x w k. k)
      eval_keeps (node.Call r f args) h w k =
          let many : Bool = nat_le 1 f && takes (length (fold_args expr_rule args)) (slice_get a.functions (f - 1))
          && are_few (length (fold_args expr_rule args)) in
          let q = two many (list_all (λ p. p.stands a) (fold_args expr_rule args)) h in
          lists_keep Known (count args) (eval_args c args w) _ (args_keep args q.1 w k)
          (λ vs w same k. then_keeps Known (c.call f vs w) _ (good.call f vs w k) (λ v w k. value (left_by r v) w k))
      eval_keeps (node.CallNumber r e args) h w k =
          let q = two ((part e).stands a && are_few (length (fold_args expr_rule args)))
          (list_all (λ p. p.stands a) (fold_args expr_rule args)) h in
          let s = two ((part e).stands a) (are_few (length (fold_args expr_rule args))) q.0 in
          then_keeps Known (eval c e w) _ (eval_keeps e s.0 w k) (λ f w k. lists_keep Known (count args)
          (eval_args c args w) _
          (args_keep args q.1 w k) (λ vs w same k. call_keeps r f vs w k))
      eval_keeps node.Getchar h w k =
          answered_keeps (get_byte w.shared) w k (read_known (next_byte w.shared.input) w.shared k)
      eval_keeps (node.Lib library.Putchar e) h w k =
          then_keeps Known (eval c e w) _ (eval_keeps e h w k) (λ v w k. spend_keeps Known (byte_answer v)
          (with_shared (put_byte v w.shared) w)
          (known_same p accepted w.shared (put_byte v w.shared) refl refl refl k))
      eval_keeps (node.Lib library.Putint e) h w k =
          then_keeps Known (eval c e w) _ (eval_keeps e h w k) (λ v w k. spend_keeps Known 0 (with_shared
          (put_number v w.shared) w)
          (known_same p accepted w.shared (put_number v w.shared) refl refl refl k))
      eval_keeps (node.Lib library.Exit e) h w k =
          then_keeps Known (eval c e w) _ (eval_keeps e h w k) (λ v w k. k)
      eval_keeps (node.Lib library.Malloc e) h w k =
          then_keeps Known (eval c e w) _ (eval_keeps e h w k) (λ v w k. spend_keeps Known (malloc_answer v w.shared)
          (with_shared (malloc v w.shared) w) (malloc_known p accepted v w.shared k))
      eval_keeps (node.Tick t args) h w k =
          let ps : List Part = fold_args expr_rule args in
          let front : Bool = in_function a && list_all (λ p. p.is_capture a) ps in
          let all = second_true (in_function a) (list_all (λ p. p.is_capture a) ps)
          (first_true front (kinds_at (places.kinds_of ps) (slice_get a.ticks t)) h) in
          lists_keep Known (count args) (eval_args c args w) _ (captures_keep args all w k)
          (λ vs w same k. tick_keeps p accepted c.program (ap (λ z. z.ticks) good.same
          ∙ meaning.ticks) t (kinds_of args) vs w
          k (tick_there t args h) (same ∙ as_many args))
      eval_keeps (node.Capture kind e) h w k =
          absurd cc
      eval_keeps (node.Splice r i) h w k =
          then_keeps Known (c.splice i w) _ (good.splice i w k) (λ v w k. k)
      eval_keeps (node.Compile e) h w k =
          then_keeps Known (eval c e w) _ (eval_keeps e (second_true (in_function a) ((part e).stands a) h) w k)
          (λ v w k.
          subst (λ z. Keeps Known (compile_number z v w)) (sym good.same) (number_keeps v w k))
      eval_keeps node.Local h w k =
          specify_keeps p accepted Local 0 w k tt tt
      eval_keeps (node.ParamOf e) h w k =
          then_keeps Known (eval c e w) _ (eval_keeps e (second_true (in_function a) ((part e).stands a) h) w k)
          (λ v w k. parameter_keeps p accepted v w k)

      args_keep : (args : Args) → list_all (λ p. p.stands a) (fold_args expr_rule args) ≡ true → (w : World)
          → Known w.shared → KeepsLength Known (count args) (eval_args c args w)
      args_keep node.NoArg h w k = (refl, k)
      args_keep (node.Arg e args) h w k =
          let q = two ((part e).stands a) (list_all (λ p. p.stands a) (fold_args expr_rule args)) h in
          before_list Known (suc (count args)) (eval c e w) _ (eval_keeps e q.0 w k)
          (λ v w k. one_before Known (count args) v (eval_args c args w) (args_keep args q.1 w k))

      -- the words of captures
      captures_keep : (args : Args) → list_all (λ p. p.is_capture a) (fold_args expr_rule args) ≡ true → (w : World)
          → Known w.shared → KeepsLength Known (count args) (eval_args c args w)
      captures_keep node.NoArg h w k = (refl, k)
      captures_keep (node.Arg e args) h w k =
          let q = two ((part e).is_capture a) (list_all (λ p. p.is_capture a) (fold_args expr_rule args)) h in
          before_list Known (suc (count args)) (eval c e w) _ (capture_keeps e q.0 w k)
          (λ v w k. one_before Known (count args) v (eval_args c args w) (captures_keep args q.1 w k))

      capture_keeps : (e : Expr) → (part e).is_capture a ≡ true → (w : World) → Known w.shared
          → Keeps Known (eval c e w)
      capture_keeps (node.Capture kind e) h w k =
          then_keeps Known (eval c e w) _ (eval_keeps e h w k) (λ v w k. value v w k)
      capture_keeps _ h w k = absurd cc
