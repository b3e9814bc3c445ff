-- Each op that the builder takes makes of it what its view says, whatever body it stands in, and with keys.
use Rattle.std.proofs.Common.{◌≡◌, ℕ, suc, ◌+◌, ◌-◌, ◌≤◌, false, List, [], ◌∷◌, ◌++◌, length, Some, None, refl}
use Rattle.std.proofs.Common.{sym, ap, ◌∙◌, subst, arith, append_assoc}
use Rattle.std.specs.Prelude.{if◌then◌else◌, drop, take}
use Rattle.icode_ops.specs.declared.op.Op.{Op}
use Rattle.icode_ops.specs.declared.op.Op.TheVariants as op
use Rattle.icode_ops.specs.declared.kind.BinKind.{BinKind}
use Rattle.icode_ops.specs.declared.kind.BinKind.TheVariants as bin
use Rattle.icode_ops.specs.declared.kind.SysKind.{SysKind}
use Rattle.icode_ops.specs.declared.kind.UnKind.{UnKind}
use Rattle.icode_ir.specs.declared.build_op.BuildOp.{BuildOp}
use Rattle.icode_ir.specs.declared.build_op.BuildOp.TheVariants.{Const, Bin, Un, GetVariable, SetVariable, Drop, Pick}
use Rattle.icode_ir.specs.declared.build_op.BuildOp.TheVariants.{Label, Jump, BranchZero, BranchNonzero, Return}
use Rattle.icode_ir.specs.declared.build_op.BuildOp.TheVariants.{ReturnZero, Sys}
use Rattle.icode_ir.specs.Build.{Build, operand, variable, label, stands, add, yield, arguments}
use Rattle.icode_ir.specs.Build as built
use Rattle.icode_ir.specs.Rules.{checked, effect}
use Rattle.tick_lower_proof.proofs.Builder.{View, inner, top, below, Check, NoCheck, SignedCheck, ZeroCheck, check_of}
use Rattle.tick_lower_proof.proofs.Builder.{check_ops, past_check, after_op, dropped, taken, passed_ops}
use Rattle.tick_lower_proof.proofs.Uprights.{upright, one_more, take_under, last_taken, take_all}
use Rattle.tick_lower_proof.proofs.Takes.{Views, operand_top, operand_picked, operand_second}
use Rattle.tick_lower_proof.proofs.Takes.{below_none}
use Rattle.tick_lower_proof.proofs.Takes.{below_one, below_two, height_is}
use Rattle.tick_lower_proof.proofs.Takes.{variable_is, label_is}
use Rattle.tick_lower_proof.proofs.Deep.{length_dropped}
use Rattle.icode_ir.specs.declared.build_op.BuildOp.TheVariants.{Nip, Load, Store, Call, CallNumber, Run, FrameAddress}
use Rattle.icode_ir.specs.declared.build_op.BuildOp.TheVariants.{Clear, Parameter, New, Put}
use Rattle.icode_ops.specs.declared.kind.ClosureKind.{ClosureKind}
use Rattle.icode_ir.proofs.Passing.{arguments-length}
use Rattle.std.proofs.lemmas.List.{length-drop, length-append}
use Rattle.word32.specs.declared.width.Width.{Width}
use Rattle.icode_ops.specs.declared.kind.RunKind.{RunKind}
use Rattle.std.proofs.Common.{subst}
use Rattle.std.proofs.lemmas.Bool.Decides.{nat_tests}
use Rattle.std.specs.Prelude.{nat_lt, Bool, if◌then◌else◌}
use Rattle.icode_ir.specs.Build.{find, mention, or_next}
use Rattle.icode_ir.specs.Runs.{run_ops, AreTaken}
use Rattle.icode_ir.specs.declared.body.Body.{Body}
use Rattle.icode_ir.specs.declared.build_op.BuildOp.TheVariants.{Enter, Leave, GetSpec, SetSpec}
use Rattle.icode_ir.specs.declared.build_op.BuildFault.{BuildFault}
use Rattle.icode_ir.specs.declared.build_op.BuildFault.TheVariants.{Underflow}
use Rattle.std.proofs.Common.{Option, true, false}
use Rattle.tick_lower_proof.proofs.Uprights.{front_is}
use Rattle.icode_ir.specs.Rules.{fault_of, needs}
use Rattle.tick_lower_proof.proofs.Builder.{issued, outer, next_behind, keys_with, after_ops}
use Rattle.tick_lower_proof.proofs.Issues.{issue}

-- which op checks an operator
abbrev pub checked_by : Check → ℕ → ℕ → Build → Build
checked_by NoCheck x y b = b
checked_by SignedCheck x y b = add (op.CheckDivision x y) b
checked_by ZeroCheck x y b = add (op.CheckZero y) b

pub checked_is : (kind : BinKind) (x y : ℕ) (b : Build) → checked kind x y b ≡ checked_by (check_of kind) x y b
checked_is bin.DivideSigned x y b = refl
checked_is bin.DivideUnsigned x y b = refl
checked_is bin.RemainderSigned x y b = refl
checked_is bin.RemainderUnsigned x y b = refl
checked_is _ x y b = refl

-- what it is to take an op
pub record Turned (base : ℕ) (o : BuildOp) (b : Build) (v : View) : Type 0 where
  pub views : Views base (effect o b) (after_op o v)
  pub ops : (effect o b).ops ≡ b.ops ++ issued o v

module _ (base : ℕ) (b : Build) (v : View) (is : Views base b v) where
  more_place : (o : Op) → base + length (b.ops ++ o ∷ []) ≡ suc v.place
  more_place o = omega (arith, one_more b.ops o, is.place)

  more_two : (o p : Op) → base + length ((b.ops ++ o ∷ []) ++ p ∷ []) ≡ suc (suc v.place)
  more_two o p = omega (arith, one_more (b.ops ++ o ∷ []) p, one_more b.ops o, is.place)

  pushed_operands : (n0 : ℕ) (rest : List ℕ) → built.below n0 b ≡ upright rest →
      built.below n0 b ++ b.registers ∷ [] ≡ upright (v.next ∷ rest)
  pushed_operands n0 rest e = ap (λ z. z ++ b.registers ∷ []) e ∙ ap (λ z. upright rest ++ z ∷ []) is.next

  -- the same, below the k topmost
  pushed_under : (n0 k : ℕ) (rest : List ℕ) →
      take (length (built.below k b) - n0) (built.below k b) ≡ upright rest →
      take (length (built.below k b) - n0) (built.below k b) ++ b.registers ∷ [] ≡ upright (v.next ∷ rest)
  pushed_under n0 k rest e = ap (λ z. z ++ b.registers ∷ []) e ∙ ap (λ z. upright rest ++ z ∷ []) is.next

  turned_const : (word : ℕ) → Turned base (Const word) b v
  turned_const word = record {
    views = record {
      keys = is.keys;
      place = more_place _;
      operands =
          pushed_operands 0 v.operands (below_none b v is);
      next = ap (λ z. z + 1) is.next;
      bodies = is.bodies;
      labels =
          is.labels;
    };
    ops = ap (λ z. b.ops ++ op.Const z word ∷ []) is.next;
  }

  turned_get : (i : ℕ) → Turned base (GetVariable i) b v
  turned_get i = record {
    views = record {
      keys = is.keys;
      place = more_place _;
      operands =
          pushed_operands 0 v.operands (below_none b v is);
      next = ap (λ z. z + 1) is.next;
      bodies = is.bodies;
      labels =
          is.labels;
    };
    ops = ap (λ z. b.ops ++ op.Move z (variable i b) ∷ []) is.next ∙
        ap (λ z. b.ops ++ op.Move v.next z ∷ []) (variable_is b v is i);
  }

  turned_set : (i : ℕ) → 1 ≤ length v.operands → Turned base (SetVariable i) b v
  turned_set i le = record {
    views = record {
      keys = is.keys;
      place = more_place _;
      operands = is.operands;
      next =
          is.next;
      bodies = is.bodies;
      labels = is.labels;
    };
    ops = ap (λ z. b.ops ++ op.Move z (operand 0 b) ∷ []) (variable_is b v is i) ∙
        ap (λ z. b.ops ++ op.Move ((inner v.bodies).first_variable + i) z ∷ []) (operand_top b v is le);
  }

  append_none : (xs : List Op) → xs ≡ xs ++ []
  append_none [] = refl
  append_none (x ∷ xs) = ap (λ z. x ∷ z) (append_none xs)

  turned_drop : 1 ≤ length v.operands → Turned base Drop b v
  turned_drop le = record {
    views = record {
      keys = is.keys;
      place = is.place;
      operands = below_one b v is le;
      next = is.next;
      bodies =
          is.bodies;
      labels = is.labels;
    };
    ops = append_none b.ops;
  }

  turned_pick : (i : ℕ) → i + 1 ≤ length v.operands → Turned base (Pick i) b v
  turned_pick i le = record {
    views = record {
      keys = is.keys;
      place = is.place;
      operands = ap (λ z. z ++ operand i b ∷ []) is.operands ∙
          ap (λ z. upright v.operands ++ z ∷ []) (operand_picked b v is i le);
      next = is.next;
      bodies = is.bodies;
      labels = is.labels;
    };
    ops = append_none b.ops;
  }

  turned_label : (i : ℕ) → Turned base (Label i) b v
  turned_label i = record {
    views = record {
      keys = is.keys;
      place = more_place _;
      operands = is.operands;
      next =
          is.next;
      bodies = is.bodies;
      labels = is.labels;
    };
    ops = ap (λ z. b.ops ++ op.Label z ∷ []) (label_is b v is i);
  }

  turned_jump : (i : ℕ) → Turned base (Jump i) b v
  turned_jump i = record {
    views = record {
      keys = is.keys;
      place = more_place _;
      operands = is.operands;
      next =
          is.next;
      bodies = is.bodies;
      labels = is.labels;
    };
    ops = ap (λ z. b.ops ++ op.Jump z ∷ []) (label_is b v is i);
  }

  turned_branch : (i : ℕ) → 1 ≤ length v.operands → Turned base (BranchZero i) b v
  turned_branch i le = record {
    views = record {
      keys = is.keys;
      place = more_place _;
      operands = below_one b v is le;
      next = is.next;
      bodies = is.bodies;
      labels = is.labels;
    };
    ops = ap (λ z. b.ops ++ op.BranchZero z (label i b) ∷ []) (operand_top b v is le) ∙
        ap (λ z. b.ops ++ op.BranchZero (top v.operands) z ∷ []) (label_is b v is i);
  }

  turned_other_branch : (i : ℕ) → 1 ≤ length v.operands → Turned base (BranchNonzero i) b v
  turned_other_branch i le = record {
    views = record {
      keys = is.keys;
      place = more_place _;
      operands = below_one b v is le;
      next = is.next;
      bodies = is.bodies;
      labels = is.labels;
    };
    ops = ap (λ z. b.ops ++ op.BranchNonzero z (label i b) ∷ []) (operand_top b v is le) ∙
        ap (λ z. b.ops ++ op.BranchNonzero (top v.operands) z ∷ []) (label_is b v is i);
  }

  turned_return_zero : Turned base ReturnZero b v
  turned_return_zero = record {
    views = record {
      keys = is.keys;
      place = more_place _;
      operands = is.operands;
      next = is.next;
      bodies = is.bodies;
      labels = is.labels;
    };
    ops = refl;
  }

  turned_return : 1 ≤ length v.operands → Turned base Return b v
  turned_return le = record {
    views = record {
      keys = is.keys;
      place = more_place _;
      operands = below_one b v is le;
      next = is.next;
      bodies = is.bodies;
      labels = is.labels;
    };
    ops = ap (λ z. b.ops ++ op.Return z ∷ []) (operand_top b v is le);
  }

  turned_sys : (kind : SysKind) → 1 ≤ length v.operands → Turned base (Sys kind) b v
  turned_sys kind le = record {
    views = record {
      keys = is.keys;
      place = more_place _;
      operands =
          pushed_operands 1 (below v.operands) (below_one b v is le);
      next = ap (λ z. z + 1) is.next;
      bodies = is.bodies;
      labels = is.labels;
    };
    ops = ap (λ z. b.ops ++ op.Sys kind z (operand 0 b) ∷ []) is.next ∙
        ap (λ z. b.ops ++ op.Sys kind v.next z ∷ []) (operand_top b v is le);
  }

  turned_nip : 2 ≤ length v.operands → Turned base Nip b v
  turned_nip le = record {
    views = record {
      keys = is.keys;
      place = is.place;
      operands = ap (λ z. z ++ operand 0 b ∷ []) (below_two b v is le) ∙
          ap (λ z. upright (below (below v.operands)) ++ z ∷ []) (operand_top b v is (omega (arith, le)));
      next = is.next;
      bodies = is.bodies;
      labels = is.labels;
    };
    ops = append_none b.ops;
  }

  turned_load : (width : Width) → 1 ≤ length v.operands → Turned base (Load width) b v
  turned_load width le = record {
    views = record {
      keys = is.keys;
      place = more_place _;
      operands = pushed_operands 1 (below v.operands) (below_one b v is le);
      next = ap (λ z. z + 1) is.next;
      bodies = is.bodies;
      labels = is.labels;
    };
    ops = ap (λ z. b.ops ++ op.Load width z (operand 0 b) ∷ []) is.next ∙
        ap (λ z. b.ops ++ op.Load width v.next z ∷ []) (operand_top b v is le);
  }

  turned_run : (routine : RunKind) → 1 ≤ length v.operands → Turned base (Run routine) b v
  turned_run routine le = record {
    views = record {
      keys = is.keys;
      place = more_place _;
      operands = pushed_operands 1 (below v.operands) (below_one b v is le);
      next = ap (λ z. z + 1) is.next;
      bodies = is.bodies;
      labels = is.labels;
    };
    ops = ap (λ z. b.ops ++ op.Run routine z (operand 0 b) ∷ []) is.next ∙
        ap (λ z. b.ops ++ op.Run routine v.next z ∷ []) (operand_top b v is le);
  }

  turned_store : (width : Width) → 2 ≤ length v.operands → Turned base (Store width) b v
  turned_store width le = record {
    views = record {
      keys = is.keys;
      place = more_place _;
      operands = ap (λ z. z ++ operand 0 b ∷ []) (below_two b v is le) ∙
          ap (λ z. upright (below (below v.operands)) ++ z ∷ []) (operand_top b v is (omega (arith, le)));
      next = is.next;
      bodies = is.bodies;
      labels = is.labels;
    };
    ops = ap (λ z. b.ops ++ op.Store width z (operand 0 b) ∷ []) (operand_second b v is le) ∙
        ap (λ z. b.ops ++ op.Store width (top (below v.operands)) z ∷ []) (operand_top b v is (omega (
          arith,
          le,
        )));
  }

  turned_frame : (offset : ℕ) → Turned base (FrameAddress offset) b v
  turned_frame offset = record {
    views = record {
      keys = is.keys;
      place = more_place _;
      operands = pushed_operands 0 v.operands (below_none b v is);
      next = ap (λ z. z + 1) is.next;
      bodies = is.bodies;
      labels = is.labels;
    };
    ops = ap (λ z. b.ops ++ op.FrameAddress z offset ∷ []) is.next;
  }

  turned_parameter : (k : ℕ) → Turned base (Parameter k) b v
  turned_parameter k = record {
    views = record {
      keys = is.keys;
      place = more_place _;
      operands = pushed_operands 0 v.operands (below_none b v is);
      next = ap (λ z. z + 1) is.next;
      bodies = is.bodies;
      labels = is.labels;
    };
    ops = ap (λ z. b.ops ++ op.GetParameter z k ∷ []) is.next;
  }

  turned_new : (address : ℕ) (kind : ClosureKind) (captures : ℕ) →
      Turned base (New address kind captures) b v
  turned_new address kind captures = record {
    views = record {
      keys = is.keys;
      place = more_place _;
      operands = pushed_operands 0 v.operands (below_none b v is);
      next = ap (λ z. z + 1) is.next;
      bodies = is.bodies;
      labels = is.labels;
    };
    ops = ap (λ z. b.ops ++ op.New z address kind captures ∷ []) is.next;
  }

  turned_put : (i : ℕ) → 1 ≤ length v.operands → Turned base (Put i) b v
  turned_put i le = record {
    views = record {
      keys = is.keys;
      place = more_place _;
      operands = below_one b v is le;
      next = is.next;
      bodies = is.bodies;
      labels = is.labels;
    };
    ops = ap (λ z. b.ops ++ op.Put i z ∷ []) (operand_top b v is le);
  }

  turned_clear : (offset words : ℕ) → Turned base (Clear offset words) b v
  turned_clear offset words = record {
    views = record {
      keys = is.keys;
      place = more_place _;
      operands = is.operands;
      next = is.next;
      bodies = is.bodies;
      labels = is.labels;
    };
    ops = refl;
  }

  -- the arguments of a call, which are the k topmost operands
  passed_are : (i : ℕ) (rs : List ℕ) → arguments i rs ≡ passed_ops i rs
  passed_are i [] = refl
  passed_are i (r ∷ rs) =
      let e : i + 1 ≡ suc i = omega arith in
      ap (λ z. op.Argument i r ∷ z) (ap (λ j. arguments j rs) e ∙ passed_are (suc i) rs)

  passes : (k : ℕ) → k ≤ length v.operands →
      arguments 0 (drop (length b.operands - k) b.operands) ≡ passed_ops 0 (taken k v.operands [])
  passes k le =
      ap (λ z. arguments 0 (drop (length z - k) z)) is.operands
      ∙ ap (arguments 0) (last_taken k v.operands le)
      ∙ passed_are 0 (taken k v.operands [])

  below_these : (k : ℕ) → k ≤ length v.operands → built.below k b ≡ upright (dropped k v.operands)
  below_these k le = ap (λ z. take (length z - k) z) is.operands ∙ take_under k v.operands le

  call_place : (k : ℕ) (x y : Op) → k ≤ length v.operands →
      base + length (((b.ops ++ arguments 0 (drop (length b.operands - k) b.operands)) ++ x ∷ []) ++ y ∷ []) ≡
      suc (v.place + suc k)
  call_place k x y le =
      let rs = drop (length b.operands - k) b.operands in
      omega (
        arith,
        one_more ((b.ops ++ arguments 0 rs) ++ x ∷ []) y,
        one_more (b.ops ++ arguments 0 rs) x,
        length-append b.ops (arguments 0 rs),
        arguments-length 0 rs,
        length-drop (length b.operands - k) b.operands,
        height_is b v is,
        is.place,
      )

  call_ops : (xs : List Op) (x y : Op) → ((b.ops ++ xs) ++ x ∷ []) ++ y ∷ [] ≡ b.ops ++ (xs ++ x ∷ y ∷ [])
  call_ops xs x y =
      append_assoc (b.ops ++ xs) (x ∷ []) (y ∷ []) ∙ append_assoc b.ops xs (x ∷ y ∷ [])

  turned_call : (address k : ℕ) → k ≤ length v.operands → Turned base (Call address k) b v
  turned_call address k le =
      let xs = arguments 0 (drop (length b.operands - k) b.operands) in
      record {
        views = record {
          keys = is.keys;
          place = call_place k (op.Call address) (op.Result b.registers) le;
          operands = pushed_under 0 k (dropped k v.operands)
              (take_all (built.below k b) ∙ below_these k le);
          next = ap (λ z. z + 1) is.next;
          bodies = is.bodies;
          labels = is.labels;
        };
        ops = call_ops xs (op.Call address) (op.Result b.registers)
            ∙ ap (λ z. b.ops ++ (z ++ op.Call address ∷ op.Result b.registers ∷ [])) (passes k le)
            ∙ ap (λ z. b.ops ++ (passed_ops 0 (taken k v.operands []) ++ op.Call address ∷ op.Result z ∷ [])) is.next;
      }

  turned_number : (k : ℕ) → k + 1 ≤ length v.operands → Turned base (CallNumber k) b v
  turned_number k le =
      let xs = arguments 0 (drop (length b.operands - k) b.operands) in
      let fewer : k ≤ length v.operands = omega (arith, le) in
      let o = op.CallNumber (operand k b) k in
      record {
        views = record {
          keys = is.keys;
          place = call_place k o (op.Result b.registers) fewer;
          operands = pushed_under 1 k (below (dropped k v.operands))
              (ap (λ z. take (length z - 1) z) (below_these k fewer)
              ∙ take_under 1 (dropped k v.operands) (omega (arith, length_dropped k v.operands, le)));
          next = ap (λ z. z + 1) is.next;
          bodies = is.bodies;
          labels = is.labels;
        };
        ops = call_ops xs o (op.Result b.registers)
            ∙ ap (λ z. b.ops ++ (z ++ o ∷ op.Result b.registers ∷ [])) (passes k fewer)
            ∙ ap (λ z. b.ops ++ (passed_ops 0 (taken k v.operands []) ++ o ∷ op.Result z ∷ [])) is.next
            ∙ ap (λ z. b.ops ++ (passed_ops 0 (taken k v.operands []) ++ op.CallNumber z k ∷ op.Result v.next ∷ []))
            (operand_picked b v is k le);
      }

  turned_un : (kind : UnKind) → 1 ≤ length v.operands → Turned base (Un kind) b v
  turned_un kind le = record {
    views = record {
      keys = is.keys;
      place = more_place _;
      operands =
          pushed_operands 1 (below v.operands) (below_one b v is le);
      next = ap (λ z. z + 1) is.next;
      bodies = is.bodies;
      labels = is.labels;
    };
    ops = ap (λ z. b.ops ++ op.Un kind z (operand 0 b) ∷ []) is.next ∙
        ap (λ z. b.ops ++ op.Un kind v.next z ∷ []) (operand_top b v is le);
  }

  -- an operator, with what checks it
  abbrev with_bin : BinKind → Build → Build
  with_bin kind b1 = yield (op.Bin kind b.registers (operand 1 b) (operand 0 b)) 2 b1

  bin_matches : (kind : BinKind) (c : Check) → 2 ≤ length v.operands →
      Views base (with_bin kind (checked_by c (operand 1 b) (operand 0 b) b))
      (record v { place = suc (past_check c v.place); operands = v.next ∷ below (below v.operands); next = v.next + 1 })
  bin_matches kind NoCheck le =
      record {
        keys = is.keys;
        place = more_place _;
        operands =
            pushed_operands 2 (below (below v.operands)) (below_two b v is le);
        next = ap (λ z. z + 1) is.next;
        bodies =
            is.bodies;
        labels = is.labels;
      }
  bin_matches kind SignedCheck le =
      record {
        keys = is.keys;
        place = more_two _ _;
        operands =
            pushed_operands 2 (below (below v.operands)) (below_two b v is le);
        next = ap (λ z. z + 1) is.next;
        bodies =
            is.bodies;
        labels = is.labels;
      }
  bin_matches kind ZeroCheck le =
      record {
        keys = is.keys;
        place = more_two _ _;
        operands =
            pushed_operands 2 (below (below v.operands)) (below_two b v is le);
        next = ap (λ z. z + 1) is.next;
        bodies =
            is.bodies;
        labels = is.labels;
      }

  -- the ops that are issued, by what they name
  abbrev bin_issued : BinKind → Check → (r x y : ℕ) → List Op
  bin_issued kind c r x y = check_ops c x y (op.Bin kind r x y ∷ [])

  bin_ops : (kind : BinKind) (c : Check) →
      (with_bin kind (checked_by c (operand 1 b) (operand 0 b) b)).ops ≡ b.ops ++ bin_issued kind c b.registers
      (operand 1 b) (operand 0 b)
  bin_ops kind NoCheck = refl
  bin_ops kind SignedCheck = append_assoc b.ops _ _
  bin_ops kind ZeroCheck = append_assoc b.ops _ _

  turned_bin : (kind : BinKind) → 2 ≤ length v.operands →
      Turned base (Bin kind) b v
  turned_bin kind le =
      let k = check_of kind in
      let same : effect (Bin kind) b ≡ with_bin kind (checked_by k (operand 1 b) (operand 0 b) b) =
      ap (with_bin kind) (checked_is kind (operand 1 b) (operand 0 b) b) in
      record {
        views = subst (λ z. Views base z (after_op (Bin kind) v)) (sym same) (bin_matches kind k le);
        ops =
            ap (λ z. z.ops) same
            ∙ bin_ops kind k
            ∙ ap (λ z. b.ops ++ bin_issued kind k z (operand 1 b) (operand 0 b)) is.next
            ∙ ap (λ z. b.ops ++ bin_issued kind k v.next z (operand 0 b)) (operand_second b v is le)
            ∙ ap (λ z. b.ops ++ bin_issued kind k v.next (top (below v.operands)) z) (operand_top b v is
            (omega arith));
      }

  turned_enter : (n m : ℕ) → Turned base (Enter n m) b v
  turned_enter n m = record {
    views = record {
      keys = is.keys;
      place = is.place;
      operands = is.operands;
      next = ap (λ z. z + n) is.next;
      bodies = ap (λ z. z ++ (let body : Body = record {
        first_variable = b.registers;
        variables = n;
        first_label = b.labels;
        labels = m;
      } in body) ∷ []) is.bodies
          ∙ ap (λ r. upright v.bodies ++ (let body : Body = record {
            first_variable = r;
            variables = n;
            first_label = b.labels;
            labels = m;
          } in body) ∷ []) is.next
          ∙ ap (λ l. upright v.bodies ++ (let body : Body = record {
            first_variable = v.next;
            variables = n;
            first_label = l;
            labels = m;
          } in body) ∷ []) is.labels;
      labels = ap (λ z. z + m) is.labels;
    };
    ops = append_none b.ops;
  }

  turned_leave : Turned base Leave b v
  turned_leave = record {
    views = record {
      keys = is.keys;
      place = is.place;
      operands = is.operands;
      next = is.next;
      bodies = ap (λ z. take (length z - 1) z) is.bodies ∙ left v.bodies;
      labels = is.labels;
    };
    ops = append_none b.ops;
  }
    where
      left : (xs : List Body) → take (length (upright xs) - 1) (upright xs) ≡ upright (outer xs)
      left [] = refl
      left (x ∷ xs) = front_is (upright xs) x x

  -- ---- keys

  turned_get_key : (key : ℕ) → Turned base (GetSpec key) b v
  turned_get_key key =
      let t = by (find key b.keys) in
      let e : find key b.keys ≡ find key v.keys = ap (find key) is.keys in
      record {
        views = subst (λ o. Views base (effect (GetSpec key) b) (record v {
          place = suc v.place;
          operands = next_behind o v.next ∷ v.operands;
          next = next_behind o v.next + 1;
          keys = keys_with o key v.next v.keys;
        })) e t.0;
        ops = subst (λ o. (effect (GetSpec key) b).ops
            ≡ b.ops ++ op.Move (next_behind o v.next) (or_next o v.next) ∷ []) e t.1;
      }
    where
      by : (o : Option ℕ) →
          Views base
          (yield (op.Move (mention o key b).registers (or_next o b.registers)) 0 (mention o key b)) (record v {
            place = suc v.place;
            operands = next_behind o v.next ∷ v.operands;
            next = next_behind o v.next + 1;
            keys = keys_with o key v.next v.keys;
          }) × ((yield (op.Move (mention o key b).registers (or_next o b.registers)) 0 (mention o key b)).ops
          ≡ b.ops ++ op.Move (next_behind o v.next) (or_next o v.next) ∷ [])
      by (Some r) = (
        record {
          place = more_place _;
          operands = pushed_operands 0 v.operands (below_none b v is);
          next = ap (λ z. z + 1) is.next;
          bodies = is.bodies;
          labels = is.labels;
          keys = is.keys;
        },
        ap (λ z. b.ops ++ op.Move z r ∷ []) is.next,
      )
      by None = (
        record {
          place = more_place _;
          operands = ap (λ z. z ++ (b.registers + 1) ∷ []) (below_none b v is)
              ∙ ap (λ z. upright v.operands ++ (z + 1) ∷ []) is.next;
          next = ap (λ z. z + 1 + 1) is.next;
          bodies = is.bodies;
          labels = is.labels;
          keys = ap (λ z. z ++ (key, b.registers) ∷ []) is.keys ∙ ap (λ z. v.keys ++ (key, z) ∷ []) is.next;
        },
        ap (λ z. b.ops ++ op.Move (z + 1) z ∷ []) is.next,
      )

  turned_set_key : (key : ℕ) → 1 ≤ length v.operands → Turned base (SetSpec key) b v
  turned_set_key key le =
      let t = by (find key b.keys) in
      let e : find key b.keys ≡ find key v.keys = ap (find key) is.keys in
      record {
        views = subst (λ o. Views base (effect (SetSpec key) b) (record v {
          place = suc v.place;
          next = next_behind o v.next;
          keys = keys_with o key v.next v.keys;
        })) e t.0;
        ops = subst (λ o. (effect (SetSpec key) b).ops ≡ b.ops ++ op.Move (or_next o v.next) (top v.operands) ∷ []) e
            t.1;
      }
    where
      by : (o : Option ℕ) →
          Views base (add (op.Move (or_next o b.registers) (operand 0 b)) (mention o key b)) (record v {
            place = suc v.place;
            next = next_behind o v.next;
            keys = keys_with o key v.next v.keys;
          }) × ((add (op.Move (or_next o b.registers) (operand 0 b)) (mention o key b)).ops
          ≡ b.ops ++ op.Move (or_next o v.next) (top v.operands) ∷ [])
      by (Some r) = (
        record {
          place = more_place _;
          operands = is.operands;
          next = is.next;
          bodies = is.bodies;
          labels = is.labels;
          keys = is.keys;
        },
        ap (λ z. b.ops ++ op.Move r z ∷ []) (operand_top b v is le),
      )
      by None = (
        record {
          place = more_place _;
          operands = is.operands;
          next = ap (λ z. z + 1) is.next;
          bodies = is.bodies;
          labels = is.labels;
          keys = ap (λ z. z ++ (key, b.registers) ∷ []) is.keys ∙ ap (λ z. v.keys ++ (key, z) ∷ []) is.next;
        },
        ap (λ z. b.ops ++ op.Move z (operand 0 b) ∷ []) is.next
            ∙ ap (λ z. b.ops ++ op.Move v.next z ∷ []) (operand_top b v is le),
      )

  -- what an op that is taken finds
  tall : (n : ℕ) (x : Option BuildFault) → needs n b x ≡ None → n ≤ length v.operands
  tall n x e = by (nat_lt (length b.operands) n) refl e
    where
      by : (t : Bool) → nat_lt (length b.operands) n ≡ t → (if t then Some Underflow else x) ≡ None →
          n ≤ length v.operands
      by true lt e1 = absurd cc
      by false lt e1 =
          let le : n ≤ length b.operands = grind (arith, nat_tests, lt) in
          omega (arith, le, height_is b v is)

  pub turned : (o : BuildOp) → fault_of o b ≡ None → Turned base o b v
  turned (Const word) e = turned_const word
  turned (Bin kind) e = turned_bin kind (tall 2 _ e)
  turned (Un kind) e = turned_un kind (tall 1 _ e)
  turned (Enter n m) e = turned_enter n m
  turned Leave e = turned_leave
  turned (GetVariable i) e = turned_get i
  turned (SetVariable i) e = turned_set i (tall 1 _ e)
  turned Drop e = turned_drop (tall 1 _ e)
  turned (Pick i) e = turned_pick i (tall (i + 1) _ e)
  turned (Label i) e = turned_label i
  turned (Jump i) e = turned_jump i
  turned (BranchZero i) e = turned_branch i (tall 1 _ e)
  turned (BranchNonzero i) e = turned_other_branch i (tall 1 _ e)
  turned Return e = turned_return (tall 1 _ e)
  turned ReturnZero e = turned_return_zero
  turned (Sys kind) e = turned_sys kind (tall 1 _ e)
  turned Nip e = turned_nip (tall 2 _ e)
  turned (Load width) e = turned_load width (tall 1 _ e)
  turned (Store width) e = turned_store width (tall 2 _ e)
  turned (Call address k) e = turned_call address k (tall k _ e)
  turned (CallNumber k) e = turned_number k (tall (k + 1) _ e)
  turned (Run routine) e = turned_run routine (tall 1 _ e)
  turned (FrameAddress offset) e = turned_frame offset
  turned (Clear offset words) e = turned_clear offset words
  turned (Parameter k) e = turned_parameter k
  turned (New address kind captures) e = turned_new address kind captures
  turned (Put i) e = turned_put i (tall 1 _ e)
  turned (GetSpec key) e = turned_get_key key
  turned (SetSpec key) e = turned_set_key key (tall 1 _ e)

-- a row of them
pub turned_all : (base : ℕ) (os : List BuildOp) (b : Build) (v : View) → Views base b v → AreTaken os b →
    Views base (run_ops os b) (after_ops os v) × ((run_ops os b).ops ≡ b.ops ++ issue os v)
turned_all base [] b v is taken = (is, none b.ops)
  where
    none : (xs : List Op) → xs ≡ xs ++ []
    none [] = refl
    none (x ∷ xs) = ap (λ z. x ∷ z) (none xs)
turned_all base (o ∷ os) b v is taken =
    let t = turned base b v is o taken.0 in
    let more = turned_all base os (effect o b) (after_op o v) t.views taken.1 in (
      more.0,
      more.1 ∙ ap (λ z. z ++ issue os (after_op o v)) t.ops ∙
          append_assoc b.ops (issued o v) (issue os (after_op o v)),
    )
