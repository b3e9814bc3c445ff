use Rattle.std.proofs.Common.{rules, false, ◌≡◌, ℕ, ◌+◌, ◌*◌, refl, ap, ◌∙◌, arith, Some}
use Rattle.std.specs.Prelude.{slice_index}
use Rattle.word32.specs.Bytes.{word_in}
use Rattle.word32.specs.declared.map.TheConstants.{HEAP}
use Rattle.history.specs.Events.{Input}
use Rattle.limits.specs.declared.run.TheConstants.{STACK_OF_A_CALL, STACK_OF_A_NODE}
use Rattle.staged_meaning.specs.Source.{main_of}
use Rattle.eval_state.specs.declared.state.Parts.{Parts}
use Rattle.eval_state.specs.Begins.{first_run}
use Rattle.eval_state.proofs.Starts.{main_of_program, size_of_main, starts}
use Rattle.eval_state.proofs.state.Machine.new.Goals as goal

pub overflow_mul-parts : goal.overflow_mul-parts
overflow_mul-parts c =
    let main = c.in-Some.main.now in
    let mine : main_of c.args.typed.now.functions ≡ Some main = search rules in
    let small = (size_of_main c.args.typed.now main c.keeps_law.ensures mine).1 in
    omega (arith, small)

pub overflow_add-parts : goal.overflow_add-parts
overflow_add-parts c =
    let main = c.in-Some.main.now in
    let mine : main_of c.args.typed.now.functions ≡ Some main = search rules in
    let small = (size_of_main c.args.typed.now main c.keeps_law.ensures mine).1 in
    omega (arith, small)

pub returns : goal.returns
returns c = λ program e.
    let main = c.in-Some.main.now in
    let t = c.args.typed.now in
    let mine : main_of t.functions ≡ Some main = search rules in
    let size = (size_of_main t main c.keeps_law.ensures mine).0 in
    let words : (i : ℕ) → slice_index c.in_ok-objects.objects.items i ≡ word_in t.image (4 * i) = search rules in
    let input : Input = record { bytes = c.args.input.now; failing = false } in
    let p : Parts = record {
      alloc = c.args.alloc;
      typed = c.args.typed;
      main = c.in-Some.main;
      turns = c.args.units;
      depth = c.args.units;
      units = c.args.units;
      entries = c.new-5.result;
      body = record {
        variables = c.new.result;
        arguments = c.new-2.result;
        generated = record { arguments = c.new-3.result; values = c.new-4.result };
        object = main.object;
        row = 0;
      };
      events = c.new-6.result;
      input = c.args.input;
      objects = c.in_ok-objects.objects;
      heap = HEAP;
      used = STACK_OF_A_CALL + STACK_OF_A_NODE * main.size;
      frames = main.object;
      rows = c.new-7.result;
      closures = 0;
      compiled = c.new-8.result;
      arena = 0;
    } in
    starts p (record {
      turns = refl;
      depth = refl;
      entries = c.new-5.ensures;
      body = λ i. record {
        variables = c.new.ensures i;
        arguments = c.new-2.ensures i;
        generated = record { arguments = c.new-3.ensures i; values = c.new-4.ensures i };
        object = main.object;
        row = 0;
      };
      events = c.new-6.ensures;
      objects = words;
      heap = refl;
      used = ap (λ n. STACK_OF_A_CALL + STACK_OF_A_NODE * n) size;
      frames = refl;
      rows = c.new-7.ensures;
      closures = refl;
      compiled = c.new-8.ensures;
    })
    ∙ ap (λ q. first_run q input c.args.units) (main_of_program p program mine e)
