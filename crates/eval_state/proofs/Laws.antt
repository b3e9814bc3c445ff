-- The laws of what is pending: what a frame makes of what it waits for is the meaning of the node that left it behind.
use Rattle.std.proofs.Common.{◌≡◌, ℕ, zero, suc, List, [], ◌∷◌, ◌++◌, refl, ap, sym, ◌∙◌, append_assoc}
use Rattle.word32.specs.declared.width.Width.{Width}
use Rattle.icode_ops.specs.declared.kind.BinKind.{BinKind}
use Rattle.icode_ops.specs.declared.kind.UnKind.{UnKind}
use Rattle.typed_tree.specs.declared.expression.Answer.{Answer}
use Rattle.typed_tree.specs.declared.expression.CaptureKind.{CaptureKind}
use Rattle.typed_tree.specs.declared.expression.Library.{Library}
use Rattle.typed_tree.specs.declared.expression.Library.TheVariants.{Putchar, Putint, Exit, Malloc}
use Rattle.typed_tree.specs.Nodes as node
use Rattle.typed_tree.specs.Nodes.{Expr, Args, NoArg, Arg, Stmt, Items, NoItem, Item}
use Rattle.staged_meaning.specs.Meaning.{Context, eval, eval_args}
use Rattle.staged_meaning.specs.Specifications.{kinds_of}
use Rattle.staged_meaning.specs.World.{World, Result, Gives, Returns, Ends, Stops, Flow, then_do, spend_from, spend}
use Rattle.eval_state.specs.Pending as pending
use Rattle.eval_state.specs.Pending.{Now, Body, Target, Frame}
use Rattle.eval_state.specs.Rest.{Signal, Value, valued, left, on_value, on_flow, Place, truth, targeted, after}
use Rattle.eval_state.specs.Rest.{under, below, through, spent}

-- ---- frames on frames

pub below_push : (fs : List Frame) (g : Frame) (p : Place) → below (fs ++ g ∷ []) p ≡ below fs (under g p)
below_push [] g p = refl
below_push (f ∷ fs) g p = ap (under f) (below_push fs g p)

pub through_push : (at : Place → Context) (p : Place) (fs : List Frame) (g : Frame) (r : Result Signal)
    → through at p (fs ++ g ∷ []) r ≡ through at (under g p) fs (after (at p) g r)
through_push at p [] g r = refl
through_push at p (f ∷ fs) g r =
    ap (λ q. after (at q) f (through at p (fs ++ g ∷ []) r)) (below_push fs g p)
    ∙ ap (after (at (below fs (under g p))) f) (through_push at p fs g r)

-- a frame under which the place stays
pub push_plain : (at : Place → Context) (p : Place) (fs : List Frame) (g : Frame) (r : Result Signal) → under g p ≡ p
    → through at p (fs ++ g ∷ []) r ≡ through at p fs (after (at p) g r)
push_plain at p fs g r h = through_push at p fs g r ∙ ap (λ q. through at q fs (after (at p) g r)) h

-- ---- one thing after another

pub do_both : {A B C : Type 0} (r : Result A) (f : A → World → Result B) (g : B → World → Result C)
    → then_do (then_do r f) g ≡ then_do r (λ a w. then_do (f a w) g)
do_both (Gives a w) f g = refl
do_both (Returns v w) f g = refl
do_both (Ends e s) f g = refl
do_both (Stops s) f g = refl

pub valued_bind : (r : Result ℕ) (g : ℕ → World → Result ℕ) → on_value (λ v w. valued (g v w)) (valued r)
    ≡ valued (then_do r g)
valued_bind (Gives v w) g = refl
valued_bind (Returns v w) g = refl
valued_bind (Ends e s) g = refl
valued_bind (Stops s) g = refl

pub left_bind : (r : Result ℕ) (g : ℕ → World → Result Flow) → on_value (λ v w. left (g v w)) (valued r)
    ≡ left (then_do r g)
left_bind (Gives v w) g = refl
left_bind (Returns v w) g = refl
left_bind (Ends e s) g = refl
left_bind (Stops s) g = refl

pub flow_bind : (r : Result Flow) (g : Flow → World → Result Flow) → on_flow (λ f w. left (g f w)) (left r)
    ≡ left (then_do r g)
flow_bind (Gives f w) g = refl
flow_bind (Returns v w) g = refl
flow_bind (Ends e s) g = refl
flow_bind (Stops s) g = refl

-- a unit is spent before a value, and before a statement's end
pub spent_value : (c : Context) (units v : ℕ) (w : World) → spent c units (pending.Value v) w
    ≡ valued (spend_from units v w)
spent_value c zero v w = refl
spent_value c (suc u) v w = refl

pub spent_left : (c : Context) (units : ℕ) (flow : Flow) (w : World) → spent c units (pending.Left flow) w
    ≡ left (spend_from units flow w)
spent_left c zero flow w = refl
spent_left c (suc u) flow w = refl

pub ruleset binds = (valued_bind, left_bind, flow_bind, spent_value, spent_left)

-- ---- expressions: the first part is evaluated, and the frame waits for it

module _ (c : Context) where
  pub set_var : (i : ℕ) (a : Expr) (w : World) → after c (pending.SetVar i) (valued (eval c a w))
      ≡ valued (eval c (node.SetVar i a) w)
  set_var i a w = valued_bind (eval c a w) _

  pub set_generated : (i : ℕ) (a : Expr) (w : World) → after c (pending.SetGenerated i) (valued (eval c a w))
      ≡ valued (eval c (node.VSet i a) w)
  set_generated i a w = valued_bind (eval c a w) _

  pub load : (width : Width) (a : Expr) (w : World) → after c (pending.Load width) (valued (eval c a w))
      ≡ valued (eval c (node.Load width a) w)
  load width a w = valued_bind (eval c a w) _

  pub store : (width : Width) (a b : Expr) (w : World) → after c (pending.StoreAddress width b) (valued (eval c a w))
      ≡ valued (eval c (node.Store width a b) w)
  store width a b w = valued_bind (eval c a w) _

  pub store_value : (width : Width) (b : Expr) (at : ℕ) (w : World)
      → after c (pending.StoreValue width at) (valued (eval c b w))
      ≡ after c (pending.StoreAddress width b) (Gives (Value at) w)
  store_value width b at w = valued_bind (eval c b w) _

  pub modify : (width : Width) (kind : BinKind) (a b : Expr) (w : World)
      → after c (pending.ModifyAddress width kind b) (valued (eval c a w))
      ≡ valued (eval c (node.Modify width kind a b) w)
  modify width kind a b w = valued_bind (eval c a w) _

  pub post : (width : Width) (step : ℕ) (a : Expr) (w : World)
      → after c (pending.Post width step) (valued (eval c a w)) ≡ valued (eval c (node.Post width step a) w)
  post width step a w = valued_bind (eval c a w) _

  pub first : (kind : BinKind) (a b : Expr) (w : World) → after c (pending.First kind b) (valued (eval c a w))
      ≡ valued (eval c (node.Bin kind a b) w)
  first kind a b w = valued_bind (eval c a w) _

  pub second : (kind : BinKind) (b : Expr) (x : ℕ) (w : World)
      → after c (pending.Second kind x) (valued (eval c b w)) ≡ after c (pending.First kind b) (Gives (Value x) w)
  second kind b x w = valued_bind (eval c b w) _

  pub unary : (kind : UnKind) (a : Expr) (w : World) → after c (pending.Un kind) (valued (eval c a w))
      ≡ valued (eval c (node.Un kind a) w)
  unary kind a w = valued_bind (eval c a w) _

  pub both : (a b : Expr) (w : World) → after c (pending.And b) (valued (eval c a w)) ≡ valued (eval c (node.And a b) w)
  both a b w = valued_bind (eval c a w) _

  pub either : (a b : Expr) (w : World) → after c (pending.Or b) (valued (eval c a w)) ≡ valued (eval c (node.Or a b) w)
  either a b w = valued_bind (eval c a w) _

  -- the second operand is evaluated where the first decides nothing
  pub and_second : (b : Expr) (x : ℕ) (w : World)
      → after c pending.Truth (valued (eval c b w)) ≡ after c (pending.And b) (Gives (Value (suc x)) w)
  and_second b x w = valued_bind (eval c b w) truth

  pub or_second : (b : Expr) (w : World) → after c pending.Truth (valued (eval c b w))
      ≡ after c (pending.Or b) (Gives (Value 0) w)
  or_second b w = valued_bind (eval c b w) truth

  pub choice : (t a b : Expr) (w : World) → after c (pending.Cond a b) (valued (eval c t w))
      ≡ valued (eval c (node.Cond t a b) w)
  choice t a b w = valued_bind (eval c t w) _

  pub chosen_first : (a b : Expr) (v : ℕ) (w : World)
      → after c pending.Spend (valued (eval c a w)) ≡ after c (pending.Cond a b) (Gives (Value (suc v)) w)
  chosen_first a b v w = valued_bind (eval c a w) spend

  pub chosen_second : (a b : Expr) (w : World) → after c pending.Spend (valued (eval c b w))
      ≡ after c (pending.Cond a b) (Gives (Value 0) w)
  chosen_second a b w = valued_bind (eval c b w) spend

  pub comma : (a b : Expr) (w : World) → after c (pending.Comma b) (valued (eval c a w))
      ≡ valued (eval c (node.Comma a b) w)
  comma a b w = valued_bind (eval c a w) _

  pub void : (a : Expr) (w : World) → after c pending.Void (valued (eval c a w)) ≡ valued (eval c (node.Void a) w)
  void a w = valued_bind (eval c a w) (λ x w. Gives 0 w)

  pub library_call : (kind : Library) (a : Expr) (w : World) → after c (pending.Lib kind) (valued (eval c a w))
      ≡ valued (eval c (node.Lib kind a) w)
  library_call Putchar a w = valued_bind (eval c a w) _
  library_call Putint a w = valued_bind (eval c a w) _
  library_call Exit a w = valued_bind (eval c a w) _
  library_call Malloc a w = valued_bind (eval c a w) _

  pub capture : (kind : CaptureKind) (a : Expr) (w : World) → after c pending.Spend (valued (eval c a w))
      ≡ valued (eval c (node.Capture kind a) w)
  capture kind a w = valued_bind (eval c a w) spend

  pub compile : (a : Expr) (w : World) → after c pending.Compile (valued (eval c a w))
      ≡ valued (eval c (node.Compile a) w)
  compile a w = valued_bind (eval c a w) _

  pub parameter : (a : Expr) (w : World) → after c pending.ParamOf (valued (eval c a w))
      ≡ valued (eval c (node.ParamOf a) w)
  parameter a w = valued_bind (eval c a w) _

  -- ---- arguments

  -- the first of several arguments, and then those behind it
  pub args_start : (a : Expr) (more : Args) (w : World) (k : List ℕ → World → Result ℕ)
      → on_value (λ v w. valued (then_do (eval_args c more w) (λ vs w. k (v ∷ vs) w))) (valued (eval c a w))
      ≡ valued (then_do (eval_args c (Arg a more) w) k)
  args_start a more w k =
      valued_bind (eval c a w) (λ v w. then_do (eval_args c more w) (λ vs w. k (v ∷ vs) w))
      ∙ ap (λ (h : ℕ → World → Result ℕ). valued (then_do (eval c a w) h))
      (λ i v w. sym (do_both (eval_args c more w) (λ vs w. Gives (v ∷ vs) w) k) i)
      ∙ ap valued (sym (do_both (eval c a w) (λ v w. then_do (eval_args c more w) (λ vs w. Gives (v ∷ vs) w)) k))

  -- a call's first argument, and that of a tick
  pub call_argument : (answer : Answer) (f : ℕ) (a : Expr) (more : Args) (w : World)
      → after c (pending.Argument (pending.Direct answer f) more []) (valued (eval c a w))
      ≡ valued (eval c (node.Call answer f (Arg a more)) w)
  call_argument answer f a more w = args_start a more w (targeted c (pending.Direct answer f))

  pub call_nothing : (answer : Answer) (f : ℕ) (w : World)
      → valued (targeted c (pending.Direct answer f) [] w) ≡ valued (eval c (node.Call answer f NoArg) w)
  call_nothing answer f w = refl

  pub tick_argument : (tick : ℕ) (a : Expr) (more : Args) (w : World)
      → after c (pending.Argument (pending.Specified tick (kinds_of (Arg a more))) more []) (valued (eval c a w))
      ≡ valued (eval c (node.Tick tick (Arg a more)) w)
  tick_argument tick a more w = args_start a more w (targeted c (pending.Specified tick (kinds_of (Arg a more))))

  pub tick_nothing : (tick : ℕ) (w : World) → valued (targeted c (pending.Specified tick []) [] w)
      ≡ valued (eval c (node.Tick tick NoArg) w)
  tick_nothing tick w = refl

  pub function_number : (answer : Answer) (a : Expr) (args : Args) (w : World)
      → after c (pending.Function answer args) (valued (eval c a w)) ≡ valued (eval c (node.CallNumber answer a args) w)
  function_number answer a args w = valued_bind (eval c a w) _

  pub numbered_argument : (answer : Answer) (f : ℕ) (a : Expr) (more : Args) (w : World)
      → after c (pending.Argument (pending.Numbered answer f) more []) (valued (eval c a w))
      ≡ after c (pending.Function answer (Arg a more)) (Gives (Value f) w)
  numbered_argument answer f a more w = args_start a more w (targeted c (pending.Numbered answer f))

  pub numbered_nothing : (answer : Answer) (f : ℕ) (w : World)
      → valued (targeted c (pending.Numbered answer f) [] w)
      ≡ after c (pending.Function answer NoArg) (Gives (Value f) w)
  numbered_nothing answer f w = refl

  -- the next argument, and the last
  pub next_argument : (target : Target) (a : Expr) (more : Args) (done : List ℕ) (v : ℕ) (w : World)
      → after c (pending.Argument target more (done ++ v ∷ [])) (valued (eval c a w))
      ≡ after c (pending.Argument target (Arg a more) done) (Gives (Value v) w)
  next_argument target a more done v w =
      ap (λ (h : ℕ → List ℕ → World → Result ℕ). on_value (λ x w. valued (then_do (eval_args c more w) (h x)))
      (valued (eval c a w)))
      (λ i x vs w. ap (λ l. targeted c target l w) (append_assoc done (v ∷ []) (x ∷ vs)) i)
      ∙ args_start a more w (λ vs w. targeted c target (done ++ v ∷ vs) w)

  pub last_argument : (target : Target) (done : List ℕ) (v : ℕ) (w : World)
      → valued (targeted c target (done ++ v ∷ []) w) ≡ after c (pending.Argument target NoArg done) (Gives (Value v) w)
  last_argument target done v w = refl
