-- The laws on which the steps of ticks and of variables stand.
use Rattle.icode_templates_proof.proofs.Called as calls
use Rattle.closures_proof.proofs.Checks as checks
use Rattle.closures_proof.proofs.OpChecks as ops
use Rattle.closures_proof.proofs.News as news
use Rattle.closures_proof.proofs.Puts as puts
use Rattle.closures_proof.proofs.Making as making
use Rattle.icode_run_proof.proofs.Starting.{StartLaws}
use Rattle.icode_run_proof.proofs.Ticking.{Laws}

pub tick_laws : Laws
tick_laws = record {
  agree = checks.checks_agree;
  check = λ named code a bytes ks k d w v low f u u2 b has live kind small stands h.
      ops.check_called named code a bytes ks d v low f u2 b has stands k w u live kind small h;
  no_check = λ named code a bytes ks d v rest kind low f u b has some stands h.
      ops.check_op_ends named code a bytes ks d v low f u b has stands rest kind some h;
  sums = making.kept_by_sums;
  rows = making.rows_there;
  new = λ code a bytes address kind captures shared d w low f u has few none stands h.
      news.new_called code a address kind captures shared d w low has few stands h bytes f u none;
  no_new = λ code a address kind captures shared d w trap low has few some stands h.
      news.new_op_ends code a address kind captures shared d w low has few stands h trap some;
  put = λ code a bytes capture d v f u b has h. puts.put_done code a bytes capture d v f u b has h;
  stand = λ text shared tick kinds words d h fit same b low small none.
      making.tick_made text shared tick kinds words d h fit same b low small none;
}

pub start_laws : StartLaws
start_laws = record {
  begin = λ code a bytes d w v low f u r b g stands h. calls.begin_called code a bytes d w v low f u r b g stands h;
  sums = making.kept_by_sums;
  rows = making.rows_there;
  make_local = λ code a bytes shared d w v low f u r b has none stands h. calls.local_called code a bytes d w v low f u
      r b shared has none stands h;
  no_local = λ code a bytes shared d v rest kind low f u b has some stands h.
      ops.local_op_ends code a bytes shared d v rest kind low f u b has some stands h;
  locals = making.local_made;
  make_parameter = λ code a bytes shared d w v low f u r b has none stands h. calls.parameter_called code a bytes d w v
      low f u r b shared has none stands h;
  no_parameter = λ code a bytes shared d v rest kind low f u b has some stands h.
      ops.parameter_op_ends code a bytes shared d v rest kind low f u b has some stands h;
  parameters = making.parameter_made;
}
