-- A step that does nothing but capture what stands anywhere: such steps one after the other, and what one did.
use Rattle.std.proofs.Common.{◌≡◌, ℕ, List, [], ◌∷◌, ◌++◌, length, refl, sym, ap, subst, ◌∙◌}
use Rattle.typed_tree.specs.declared.expression.CaptureKind.{CaptureKind}
use Rattle.typed_tree.specs.declared.expression.Expr.{Expr}
use Rattle.typed_tree.specs.declared.program.Tick.{Tick}
use Rattle.check_rules.specs.declared.state.Stage.{Stage}
use Rattle.check_rules.specs.declared.state.Stage.TheVariants as stage
use Rattle.check_rules.specs.declared.state.State.{State}
use Rattle.wellformed.specs.Places.{Around}
use Rattle.wf_walk.specs.Kept.{Starts, KeepsStage, Keeps, outer}
use Rattle.wf_walk.specs.Known.{Blocks, Known}
use Rattle.wf_walk.specs.Steps.{Round, Agrees, EachCapture, EachTick, CapturesStand, Did}
use Rattle.wf_walk.specs.Good.{PlainStage, Plain, PlainTables, PlainList}
use Rattle.wf_walk.proofs.Fronts.{starts_refl, starts_same, starts_more, same_rest, no_rest}
use Rattle.wf_walk.proofs.Keeps.{globals_refl, globals_more, tables_refl, tables_more, tick_refl, tick_more}
use Rattle.wf_walk.proofs.Knowing.{known_kept, agrees_back}

-- ---- captures and ticks

pub each_capture : (a : Around) (xs ys : List Expr) → EachCapture a xs → EachCapture a ys → EachCapture a (xs ++ ys)
each_capture a [] ys p q = q
each_capture a (x ∷ xs) ys p q = (p.0, p.1, each_capture a xs ys p.2 q)

pub each_tick : (a : Around) (ts us : List Tick) (ks ms : List (List CaptureKind)) → EachTick a ts ks →
    EachTick a us ms → EachTick a (ts ++ us) (ks ++ ms)
each_tick a [] us [] ms p q = q
each_tick a [] us (k ∷ ks) ms p q = cc
each_tick a (t ∷ ts) us [] ms p q = cc
each_tick a (t ∷ ts) us (k ∷ ks) ms p q = (p.0, each_tick a ts us ks ms p.1 q)

-- those of two steps, one behind the other
captures_more : (s t new : State) → Starts s.ticks.captures t.ticks.captures →
    Starts t.ticks.captures new.ticks.captures
    → ((more : Starts s.ticks.captures t.ticks.captures) → (a : Around) → EachCapture a more.rest)
    → ((more : Starts t.ticks.captures new.ticks.captures) → (a : Around) → EachCapture a more.rest)
    → (more : Starts s.ticks.captures new.ticks.captures) → (a : Around) → EachCapture a more.rest
captures_more s t new c d p q more a =
    subst (λ es. EachCapture a es) (same_rest (starts_more c d) more) (each_capture a c.rest d.rest (p c a) (q d a))

no_captures : (s new : State) → new.ticks.captures ≡ s.ticks.captures →
    (more : Starts s.ticks.captures new.ticks.captures) → (a : Around) → EachCapture a more.rest
no_captures s new e more a = subst (λ es. EachCapture a es) (sym (no_rest e more)) tt

-- ---- steps

pub plain_stage_refl : (g : Stage) (s : State) → PlainStage g s s
plain_stage_refl stage.Function s = refl
plain_stage_refl stage.Tick s = (tick_refl s, no_captures s s refl)
plain_stage_refl stage.Dollar s = (tick_refl s, refl)

pub plain_stage_more : (g : Stage) (s t new : State) → Starts s.ticks.captures t.ticks.captures →
    Starts t.ticks.captures new.ticks.captures → PlainStage g s t → PlainStage g t new → PlainStage g s new
plain_stage_more stage.Function s t new c d p q = q ∙ p
plain_stage_more stage.Tick s t new c d p q = (tick_more p.0 q.0, captures_more s t new c d p.1 q.1)
plain_stage_more stage.Dollar s t new c d p q = (tick_more p.0 q.0, q.1 ∙ p.1)

pub plain_refl : (g : Stage) (s : State) → Plain g s s
plain_refl g s = record { tables = tables_refl s; captures = starts_refl s.ticks.captures; at = plain_stage_refl g s }

pub plain_same : (g : Stage) {s new : State} → s ≡ new → Plain g s new
plain_same g {s} e = subst (λ z. Plain g s z) e (plain_refl g s)

pub plain_more : {g : Stage} {s t new : State} → Plain g s t → Plain g t new → Plain g s new
plain_more {g} {s} {t} {new} p q = record {
  tables = tables_more p.tables q.tables;
  captures = starts_more p.captures q.captures;
  at = plain_stage_more g s t new p.captures q.captures p.at q.at;
}

-- ---- steps that name in the innermost scope

list_tables_refl : (s : State) → PlainTables s s
list_tables_refl s = record {
  depth = refl;
  scopes = refl;
  result = refl;
  homes = refl;
  nodes = refl;
  object = refl;
  labels = refl;
  functions =
      refl;
  image = globals_refl s;
}

list_tables_more : {s t new : State} → PlainTables s t → PlainTables t new → PlainTables s new
list_tables_more p q = record {
  depth = q.depth ∙ p.depth;
  scopes = q.scopes ∙ p.scopes;
  result = q.result ∙ p.result;
  homes = q.homes ∙ p.homes;
  nodes = q.nodes ∙ p.nodes;
  object = q.object ∙ p.object;
  labels = q.labels ∙ p.labels;
  functions = q.functions ∙ p.functions;
  image = globals_more p.image q.image;
}

pub plain_list_refl : (g : Stage) (s : State) → PlainList g s s
plain_list_refl g s = record
    { tables = list_tables_refl s; captures = starts_refl s.ticks.captures; at = plain_stage_refl g s }

pub plain_list_same : (g : Stage) {s new : State} → s ≡ new → PlainList g s new
plain_list_same g {s} e = subst (λ z. PlainList g s z) e (plain_list_refl g s)

pub plain_list_more : {g : Stage} {s t new : State} → PlainList g s t → PlainList g t new → PlainList g s new
plain_list_more {g} {s} {t} {new} p q = record {
  tables = list_tables_more p.tables q.tables;
  captures = starts_more p.captures q.captures;
  at = plain_stage_more g s t new p.captures q.captures p.at q.at;
}

pub plain_is_list : {g : Stage} {s new : State} → Plain g s new → PlainList g s new
plain_is_list p = record {
  tables = record {
    depth = ap length p.tables.scopes;
    scopes = ap outer p.tables.scopes;
    result = p.tables.result;
    homes = p.tables.homes;
    nodes = p.tables.nodes;
    object = p.tables.object;
    labels = p.tables.labels;
    functions = p.tables.functions;
    image = p.tables.image;
  };
  captures = p.captures;
  at = p.at;
}

-- ---- what such a step keeps and did

keeps_stage : (g : Stage) (s new : State) → Starts s.ticks.captures new.ticks.captures → PlainStage g s new →
    KeepsStage g s new
keeps_stage stage.Function s new c p = starts_same s.ticks.all new.ticks.all p
keeps_stage stage.Tick s new c p = (p.0, c)
keeps_stage stage.Dollar s new c p = p

pub plain_keeps : {g : Stage} {s new : State} → Plain g s new → Keeps g s new
plain_keeps {g} {s} {new} p = record { tables = p.tables; at = keeps_stage g s new p.captures p.at }

-- it makes no ticks
pub plain_ticks : (g : Stage) (s new : State) → PlainStage g s new → new.ticks.all ≡ s.ticks.all
plain_ticks stage.Function s new p = p
plain_ticks stage.Tick s new p = p.0.ticks
plain_ticks stage.Dollar s new p = p.0.ticks

pub plain_captures : (g : Stage) (s new : State) (r : Round) → PlainStage g s new → CapturesStand g s new r
plain_captures stage.Function s new r p = tt
plain_captures stage.Tick s new r p = λ more. p.1 more r.function
plain_captures stage.Dollar s new r p = tt

no_ticks : (g : Stage) (s new : State) (r : Round) → PlainStage g s new → (made : Starts s.ticks.all new.ticks.all) →
    EachTick r.function made.rest []
no_ticks g s new r p made = subst (λ ts. EachTick r.function ts []) (sym (no_rest (plain_ticks g s new p) made)) tt

-- what it did, where its answer stands in each surrounding that agrees
pub plain_did_by : {many : List ℕ} {g : Stage} {b : Blocks} {ks : List (List CaptureKind)} {s new : State}
    (P : Round → Type 0) → Plain g s new → Known many g b ks s → ((r : Round) → Agrees many g b ks s r → P r) →
    Did many g b ks s new P
plain_did_by {many} {g} {b} {ks} {s} {new} P p known stands = record {
  more = [];
  known = known_kept [] (plain_keeps p) (λ made. sym (ap length (no_rest (plain_ticks g s new p.at) made))) known;
  back = λ r a. agrees_back [] (plain_keeps p) a;
  ticks = λ r a made. no_ticks g s new r p.at made;
  captures = λ r a. plain_captures g s new r p.at;
  stands = λ r a. stands r (agrees_back [] (plain_keeps p) a);
}

pub plain_did : {many : List ℕ} {g : Stage} {b : Blocks} {ks : List (List CaptureKind)} {s new : State}
    (P : Round → Type 0) → Plain g s new → Known many g b ks s → ((r : Round) → P r) → Did many g b ks s new P
plain_did P p known stands = plain_did_by P p known (λ r a. stands r)
