-- The staged machine that has the program's functions follows the meaning.
use Rattle.std.proofs.Common.{sym, subst, arith}
use Rattle.tick_lower_proof.specs.Laws.{LoweringFollows}
use Rattle.tick_lower_proof.proofs.FunctionOps.{has_code}
use Rattle.tick_lower_proof.proofs.Whole.{follows_at_cost}
use Rattle.tick_lower_proof.proofs.Calls.{IsCode}
use Rattle.tick_lower_proof.proofs.CompiledBodies.{bodies_follow}

pub lowering : LoweringFollows
lowering machine d program ticks input main ready stands held has made =
    follows_at_cost machine d program ticks input main ready.main
    (record {
      at = λ number function is.
          let h = held.at number function is in
          record {
            has = h.has;
            is = h.is;
            code =
                subst (IsCode d function) (sym h.stands.ops)
                (has_code d function (ready.functions number function is).ready);
            charge_is = h.stands.charge;
            object_is = h.stands.object;
          };
      ready = ready.functions;
      rows = held.rows;
      has = has;
      few = λ tick kinds is.
          let small = ready.sizes tick in
          let many = ready.captures tick kinds is in
          omega (arith, small, many);
      whole = record { at = held.whole };
    })
    ready.no_parameters
    (subst (IsCode d program.main) (sym stands.ops) (has_code d program.main ready.main.ready)) stands.charge
    stands.object (bodies_follow machine d program ticks ready.bodies) made
