-- What waits where an evaluation on the host's stack can't go on: entries, the innermost first, which are pending once
-- the evaluation goes on step by step. A call among them was made by a function of the text, so what it names of its
-- caller doesn't depend on the specifications that are there.
use Rattle.std.specs.Prelude.{◌≡◌, ◌≢◌, ℕ, suc, ◌+◌, ◌-◌, ◌^◌, ◌<◌, ◌≤◌, length, List, [], ◌∷◌, ◌++◌, Some, None}
use Rattle.limits.specs.declared.program.TheConstants.{FRAME_OBJECT_BYTES, SIZE_LIMIT}
use Rattle.word32.specs.declared.map.TheConstants.{STACK_BYTES}
use Rattle.meaning_state.specs.Shared.{limit_trap}
use Rattle.typed_tree.specs.declared.program.Function.{Function}
use Rattle.typed_tree.specs.View.{function_view}
use Rattle.staged_meaning.specs.Size.{charge_of, size_of}
use Rattle.staged_meaning.specs.Meaning.{Context}
use Rattle.staged_meaning.specs.Program.{Static, callee_at}
use Rattle.staged_meaning.specs.World.{Result}
use Rattle.eval_state.specs.Pending as pending
use Rattle.eval_state.specs.Pending.{Frame}
use Rattle.eval_state.specs.Rest.{Place, Signal, below, through}
use Rattle.eval_state.specs.declared.state.Body.{Body}
use Rattle.eval_state.specs.declared.state.Entry.{Entry}
use Rattle.eval_state.specs.declared.state.Entry.TheVariants as entry
use Rattle.eval_state.specs.declared.state.Parts.{Parts}
use Rattle.eval_state.specs.Kept.{entry_view}
use Rattle.eval_state.specs.Run.{Run, program_of, run_of, world}
use Rattle.eval_state.specs.Sound.{calls}

-- no specification is named
abbrev pub IsLocal : Entry → Type 0
IsLocal (entry.Inside f) = Unit {0}
IsLocal (entry.Called answer charge caller) = caller.row ≡ 0
IsLocal (entry.Spliced answer variables object row) = ⊥

abbrev pub AreLocal : List Entry → Type 0
AreLocal [] = Unit {0}
AreLocal (e ∷ es) = IsLocal e × AreLocal es

-- such an entry may be pending on what is pending there
abbrev pub MayWait : Entry → Parts → Type 0
MayWait (entry.Inside f) p = Unit {0}
MayWait (entry.Called answer charge caller) p = (caller.row ≡ 0) × (p.depth + calls p.entries + 1 < 2 ^ 64)
MayWait (entry.Spliced answer variables object row) p = ⊥

-- the frames that they are, the innermost last
abbrev pub frames_of : List Entry → List Frame
frames_of [] = []
frames_of (e ∷ es) = frames_of es ++ entry_view [] e ∷ []

-- it is pending besides
abbrev pub with_entry : Entry → Parts → Parts
with_entry e p = record p { entries = p.entries ++ e ∷ [] }

-- these frames are pending besides
abbrev pub with_frames : List Frame → Run → Run
with_frames fs r = record r { state = record r.state { frames = r.state.frames ++ fs } }

-- one of those that waited is pending, and the others still wait
pub record IsSettled (old new : List Entry) (p q : Parts) : Type 0 where
  pub fewer : length new < length old
  pub local : AreLocal new
  pub within : q.depth + calls q.entries + calls new < 2 ^ 64
  pub same : with_frames (frames_of new) (run_of q) ≡ with_frames (frames_of old) (run_of p)

-- at a place, behind these frames, this is what something comes to; under them all stands another place
pub record IsLate (at : Place → Context) (p : Place) (fs : List Frame) (x : Result Signal) (whole : Result Signal)
    (outer : Place) : Type 0 where
  pub same : through at p fs x ≡ whole
  pub place : below fs p ≡ outer

-- the function of the text of a number may be called here: no limit is met, and what calls it is of the text
pub record IsCallee (n : ℕ) (f : Function) (p : Parts) : Type 0 where
  pub row : p.body.row ≡ 0
  pub deep : p.depth ≢ 0
  pub size : f.size ≡ size_of (function_view f)
  pub small : f.size ≤ SIZE_LIMIT
  pub found : callee_at (program_of p) (world (run_of p)).shared.bodies n ≡ Some (Static (function_view f))
  pub free : limit_trap (charge_of f.size) f.object (world (run_of p)).shared ≡ None
  pub stack : p.used + charge_of f.size ≤ STACK_BYTES
  pub frames : p.frames + f.object ≤ FRAME_OBJECT_BYTES

-- the body of a function of the text that was passed these arguments
abbrev pub function_body : Function → List ℕ → Parts → Body
function_body f vs p = record {
  variables = [];
  arguments = vs;
  generated = p.body.generated;
  object = f.object;
  row = 0;
}

-- a body is active under a call of a charge
abbrev pub with_body : (charge : ℕ) → Body → Parts → Parts
with_body charge body p = record p {
  used = p.used + charge;
  frames = p.frames + body.object;
  depth = p.depth - 1;
  body = body;
}

-- the run in which the caller's body is active again, in the same world
abbrev pub out_of : pending.Body → Run → Run
out_of caller r = record r {
  state = record r.state { body = caller; depth = suc r.state.depth };
}
