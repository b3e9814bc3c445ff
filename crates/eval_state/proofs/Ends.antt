-- The laws of the beginning and of the end: an ending, a trap in the midst of an expression too, drops all that is
-- pending, as does the want of units; a return drops what is pending in its function; and the outcome of a run at its
-- beginning is the meaning.
use Rattle.std.proofs.Common.{◌≡◌, ℕ, zero, suc, List, [], ◌∷◌, refl, ap, ◌∙◌}
use Rattle.history.specs.Events as event
use Rattle.history.specs.Events.{End, Ended, Input}
use Rattle.pace.specs.Pace.{Seen}
use Rattle.meaning_state.specs.Shared.{Shared}
use Rattle.typed_tree.specs.Nodes.{Function}
use Rattle.staged_meaning.specs.Size.{size_of, charge_of}
use Rattle.staged_meaning.specs.Meaning.{Program, Context, exec, answer, leaves, finish, begins, seen, meant}
use Rattle.staged_meaning.specs.World.{World, Result, Gives, Returns, Ends, Stops, Flow, Normal, then_do, spend_from}
use Rattle.eval_state.specs.Pending as pending
use Rattle.eval_state.specs.Pending.{Now, Body, Frame}
use Rattle.eval_state.specs.Rest.{left, Place, context_at, after, below, through, spent}
use Rattle.eval_state.specs.Moves.{in_function, IsInside, told, entered_main}

after_ends : (c : Context) (f : Frame) (e : End) (shared : Shared) → after c f (Ends e shared) ≡ Ends e shared
after_ends c (pending.SetVar i) e shared = refl
after_ends c _ e shared = refl

after_stops : (c : Context) (f : Frame) (shared : Shared) → after c f (Stops shared) ≡ Stops shared
after_stops c (pending.SetVar i) shared = refl
after_stops c _ shared = refl

-- an ending stays, whatever is pending
pub through_ends : (at : Place → Context) (p : Place) (fs : List Frame) (e : End) (shared : Shared)
    → through at p fs (Ends e shared) ≡ Ends e shared
through_ends at p [] e shared = refl
through_ends at p (f ∷ fs) e shared = ap (after (at (below fs p)) f) (through_ends at p fs e shared) ∙ after_ends
    (at (below fs p)) f e shared

pub through_stops : (at : Place → Context) (p : Place) (fs : List Frame) (shared : Shared)
    → through at p fs (Stops shared) ≡ Stops shared
through_stops at p [] shared = refl
through_stops at p (f ∷ fs) shared = ap (after (at (below fs p)) f) (through_stops at p fs shared) ∙ after_stops
    (at (below fs p)) f shared

-- a return drops what is pending in its function
pub returns_past : (c : Context) (f : Frame) (v : ℕ) (w : World) → IsInside f → after c f (Returns v w) ≡ Returns v w
returns_past c (pending.Called a charge caller) v w h = absurd h
returns_past c (pending.SetVar i) v w h = refl
returns_past c _ v w h = refl

module _ (main : Function) (caller : World) where
  abbrev charge : ℕ
  charge = charge_of (size_of main)

  abbrev finished : Result ℕ → Seen event.Item End
  finished r = seen (then_do (then_do r (leaves charge main.object caller)) finish)

  main_told : (r : Result Flow) → told (left r) ≡ finished (answer r)
  main_told (Gives flow w) = refl
  main_told (Returns v w) = refl
  main_told (Ends e shared) = refl
  main_told (Stops shared) = refl

  main_starts : (c : Context) (units : ℕ) (w : World)
      → told (spent c units (pending.Exec main.body) w)
      ≡ finished (then_do (spend_from units Normal w) (λ flow w. answer (exec c main.body w)))
  main_starts c zero w = refl
  main_starts c (suc u) w = main_told (exec c main.body (record w { units = u }))

-- the outcome at the beginning of a run is the meaning
pub outcome_is_meaning : (program : Program) (input : Input) (units : ℕ)
    → told (spent (context_at program (suc units) (in_function units program.main.object)) units
    (pending.Exec program.main.body) (entered_main program input units))
    ≡ meant program input units
outcome_is_meaning program input units =
    main_starts program.main (begins program input units)
    (context_at program (suc units) (in_function units program.main.object)) units
    (entered_main program input units)
