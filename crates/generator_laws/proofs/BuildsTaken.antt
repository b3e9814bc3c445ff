-- The builder takes the ops of a tick expression.
use Rattle.std.proofs.Common.{◌≡◌, ℕ, suc, ◌+◌, ◌-◌, ◌≤◌, true, false, List, [], ◌∷◌, ◌++◌, length, Option}
use Rattle.std.proofs.Common.{Some, None, refl, sym, ap, ◌∙◌, subst, arith, append_assoc, length-append}
use Rattle.std.proofs.Common.{slice_get, nat_le, nat_lt}
use Rattle.std.proofs.lemmas.Bool.Decides.{nat_tests}
use Rattle.limits.specs.declared.ops.TheConstants.{OP_LIMIT}
use Rattle.icode_ops.specs.declared.op.Op.{Op}
use Rattle.icode_ops.specs.declared.op.Op.TheVariants as op
use Rattle.icode_ops.specs.declared.kind.RunKind.TheVariants as run
use Rattle.icode_ir.specs.declared.build_op.BuildOp.{BuildOp}
use Rattle.icode_ir.specs.declared.build_op.BuildOp.TheVariants as build
use Rattle.icode_ir.specs.declared.build_op.BuildFault.{BuildFault}
use Rattle.icode_ir.specs.Build.{Build}
use Rattle.icode_ir.specs.Rules.{effect, fits, needs}
use Rattle.typed_tree.specs.declared.expression.CaptureKind.{CaptureKind}
use Rattle.staged_meaning.specs.Program.{is_expression, tick_size}
use Rattle.icode_templates_proof.specs.Routines.{Named}
use Rattle.closures_proof.specs.Ops.{check_of}
use Rattle.closures_proof.specs.Laws.{named_by, kind_of_tick}
use Rattle.closures_proof.specs.Ticks.{check_op, check_ops, put_ops, new_ops}
use Rattle.generator_laws.specs.Laws.{built_of, AreTaken}
use Rattle.generator_laws.specs.Builds.{check_built, checks_built, puts_built, nips_built, tick_built, answered}
use Rattle.generator_laws.specs.Builds.{captures_from}
use Rattle.generator_laws.specs.Builds.{answered_all, registers_from, TicksAreTaken}
use Rattle.generator_laws.proofs.Builds.{with, const_built, new_built, run_built, drop_built, pick_built, put_built}
use Rattle.generator_laws.proofs.Builds.{nip_built, one_by_one, check_goes, checks_go, puts_go, last_of}

-- ---- one op behind others

taken_on : (xs ys : List BuildOp) (b : Build) → AreTaken xs b → AreTaken ys (built_of xs b) → AreTaken (xs ++ ys) b
taken_on [] ys b first second = second
taken_on (x ∷ xs) ys b first second = (first.0, taken_on xs ys (effect x b) first.1 second)

taken_at : (ops : List BuildOp) (b c : Build) → b ≡ c → AreTaken ops c → AreTaken ops b
taken_at ops b c e h = subst (AreTaken ops) (sym e) h

-- room for so many ops more, and for so many operands
has_fits : (b : Build) (more operands : ℕ) → length b.prelude + length b.ops + more ≤ OP_LIMIT → operands ≤ OP_LIMIT →
    fits more operands b ≡ None
has_fits b more operands l l' =
    let t : nat_le (length b.prelude + length b.ops + more) OP_LIMIT ≡ true = at_most _ OP_LIMIT l in
    let t' : nat_le operands OP_LIMIT ≡ true = at_most operands OP_LIMIT l' in
    rw (t, t') refl
  where
    at_most : (x y : ℕ) → x ≤ y → nat_le x y ≡ true
    at_most x y l = grind (arith, nat_tests, l)

has_needs : (b : Build) (n : ℕ) (o : Option BuildFault) → n ≤ length b.operands → o ≡ None → needs n b o ≡ None
has_needs b n o l none =
    let t : nat_lt (length b.operands) n ≡ false = not_below (length b.operands) n l in
    rw t none
  where
    not_below : (x y : ℕ) → y ≤ x → nat_lt x y ≡ false
    not_below x y l = grind (arith, nat_tests, l)

-- ---- the parts

check_taken : (o : Option Named) (k : CaptureKind) (b : Build) (ops : List Op) (front ws : List ℕ) (w r n : ℕ) →
    length ws ≡ n →
    length b.prelude + length ops + length (check_op o (record { kind = k; word = w; answer = r })) ≤ OP_LIMIT →
    length (front ++ w ∷ ws) + 1 ≤ OP_LIMIT → AreTaken (check_built o n) (with b ops (front ++ w ∷ ws) r)
check_taken None k b ops front ws w r n e room space = tt
check_taken (Some named) k b ops front ws w r n e room space =
    let vs = front ++ w ∷ ws in
    let long = length-append front (w ∷ ws) in
    let more = length-append vs (w ∷ []) in
    let again = length-append vs (r ∷ []) in
    let b1 = with b ops (vs ++ w ∷ []) r in
    let b2 = with b (ops ++ op.Run (check_of named) r w ∷ []) (vs ++ r ∷ []) (r + 1) in (
      has_needs (with b ops vs r) (n + 1) _ (omega (arith, long, e))
          (has_fits (with b ops vs r) 0 (length vs + 1) (omega (arith, room)) space),
      taken_at (build.Run (check_of named) ∷ build.Drop ∷ []) _ b1 (pick_built b ops r front ws w n e) (
        has_needs b1 1 _ (omega (arith, more))
            (has_fits b1 1 (length (vs ++ w ∷ [])) room (omega (arith, more, space))),
        taken_at (build.Drop ∷ []) _ b2 (run_built b ops r (check_of named) vs w)
            (has_needs b2 1 None (omega (arith, again)) refl, tt),
      ),
    )

checks_taken : (kinds : List CaptureKind) (b : Build) (ops : List Op) (front ws : List ℕ) (r : ℕ) →
    length ws ≡ length kinds →
    length b.prelude + length ops + length (check_ops (captures_from r kinds ws)) ≤ OP_LIMIT →
    length (front ++ ws) + 1 ≤ OP_LIMIT → AreTaken (checks_built kinds) (with b ops (front ++ ws) r)
checks_taken [] b ops front ws r e room space = tt
checks_taken (k ∷ kinds) b ops front [] r e room space = let z : ⊥ = omega (arith, e) in absurd z
checks_taken (k ∷ kinds) b ops front (w ∷ ws) r e room space =
    let first = check_op (named_by k) (record { kind = k; word = w; answer = r }) in
    let next = answered (named_by k) r in
    let rest = check_ops (captures_from next kinds ws) in
    let here = one_by_one front ws w in
    let parts = length-append first rest in
    let more = length-append ops first in
    let same : length ((front ++ w ∷ []) ++ ws) ≡ length (front ++ w ∷ ws) = ap length here in
    taken_on (check_built (named_by k) (length kinds)) (checks_built kinds) (with b ops (front ++ w ∷ ws) r)
    (check_taken (named_by k) k b ops front ws w r (length kinds) (omega (arith, e)) (omega (arith, room, parts)) space)
    (taken_at (checks_built kinds) _ (with b (ops ++ first) ((front ++ w ∷ []) ++ ws) next)
    (check_goes (named_by k) k b ops front ws w r (length kinds) (omega (arith, e))
    ∙ ap (λ (l : List ℕ). with b (ops ++ first) l next) (sym here))
    (checks_taken kinds b (ops ++ first) (front ++ w ∷ []) ws next (omega (arith, e))
    (omega (arith, room, parts, more)) (omega (arith, space, same))))

puts_taken : (kinds : List CaptureKind) (b : Build) (ops : List Op) (front ws : List ℕ) (i next number r : ℕ) →
    length ws ≡ length kinds →
    length b.prelude + length ops + length (put_ops i (captures_from next kinds ws)) ≤ OP_LIMIT →
    length (front ++ ws) + 2 ≤ OP_LIMIT →
    AreTaken (puts_built i kinds) (with b ops ((front ++ ws) ++ number ∷ []) r)
puts_taken [] b ops front ws i next number r e room space = tt
puts_taken (k ∷ kinds) b ops front [] i next number r e room space = let z : ⊥ = omega (arith, e) in absurd z
puts_taken (k ∷ kinds) b ops front (w ∷ ws) i next number r e room space =
    let vs = (front ++ w ∷ ws) ++ number ∷ [] in
    let deep : vs ≡ front ++ w ∷ (ws ++ number ∷ []) = append_assoc front (w ∷ ws) (number ∷ []) in
    let long = length-append ws (number ∷ []) in
    let whole = length-append (front ++ w ∷ ws) (number ∷ []) in
    let part = length-append front (w ∷ ws) in
    let more = length-append vs (w ∷ []) in
    let later = puts_built (suc i) kinds in
    let here = one_by_one front ws w in
    let same : length ((front ++ w ∷ []) ++ ws) ≡ length (front ++ w ∷ ws) = ap length here in
    let grown = length-append ops (op.Put i w ∷ []) in
    let b1 = with b ops (vs ++ w ∷ []) r in
    let picked : effect (build.Pick (suc (length kinds))) (with b ops vs r) ≡ b1 =
    ap (λ (l : List ℕ). effect (build.Pick (suc (length kinds))) (with b ops l r)) deep
    ∙ pick_built b ops r front (ws ++ number ∷ []) w (suc (length kinds)) (omega (arith, e, long))
    ∙ ap (λ (l : List ℕ). with b ops (l ++ w ∷ []) r) (sym deep) in (
      has_needs (with b ops vs r) (suc (length kinds) + 1) _ (omega (arith, whole, part, e))
          (has_fits (with b ops vs r) 0 (length vs + 1) (omega (arith, room)) (omega (arith, whole, space))),
      taken_at (build.Put i ∷ later) _ b1 picked (
        has_needs b1 1 _ (omega (arith, more))
            (has_fits b1 1 (length (vs ++ w ∷ []) - 1) (omega (arith, room)) (omega (arith, more, whole, space))),
        taken_at later _ (with b (ops ++ op.Put i w ∷ []) (((front ++ w ∷ []) ++ ws) ++ number ∷ []) r)
            (put_built b ops r i vs w
            ∙ ap (λ (l : List ℕ). with b (ops ++ op.Put i w ∷ []) (l ++ number ∷ []) r) (sym here))
            (puts_taken kinds b (ops ++ op.Put i w ∷ []) (front ++ w ∷ []) ws (suc i) (answered (named_by k) next)
            number r (omega (arith, e)) (omega (arith, room, grown)) (omega (arith, space, same))),
      ),
    )

nips_taken : (kinds : List CaptureKind) (b : Build) (ops : List Op) (vs ws : List ℕ) (number r : ℕ) →
    length ws ≡ length kinds → AreTaken (nips_built kinds) (with b ops ((vs ++ ws) ++ number ∷ []) r)
nips_taken [] b ops vs ws number r e = tt
nips_taken (k ∷ kinds) b ops vs ws number r e =
    let l = last_of ws (length kinds) e in
    let front = vs ++ l.front in
    let deep : (vs ++ ws) ++ number ∷ [] ≡ front ++ l.last ∷ number ∷ [] =
    ap (λ (x : List ℕ). (vs ++ x) ++ number ∷ []) l.is
    ∙ ap (λ (x : List ℕ). x ++ number ∷ []) (sym (append_assoc vs l.front (l.last ∷ [])))
    ∙ append_assoc front (l.last ∷ []) (number ∷ []) in
    let long = length-append (vs ++ ws) (number ∷ []) in
    let part = length-append vs ws in (
      has_needs (with b ops ((vs ++ ws) ++ number ∷ []) r) 2 None (omega (arith, long, part, e)) refl,
      taken_at (nips_built kinds) _ (with b ops (front ++ number ∷ []) r)
          (ap (λ (x : List ℕ). effect build.Nip (with b ops x r)) deep ∙ nip_built b ops r front l.last number)
          (nips_taken kinds b ops vs l.front number r l.long),
    )

-- ---- whole

pub ticks_taken : TicksAreTaken
ticks_taken text tick kinds vs ws b has e room space =
    let r = b.registers in
    let size = tick_size (slice_get text.program.ticks tick) in
    let address = text.generator_at tick in
    let kind = kind_of_tick (is_expression (slice_get text.program.ticks tick)) in
    let all = vs ++ ws in
    let xs = captures_from (r + 1 + 1) kinds ws in
    let o1 = b.ops ++ op.Const r size ∷ [] in
    let o2 = o1 ++ op.Run run.Begin (r + 1) r ∷ [] in
    let o3 = o2 ++ check_ops xs in
    let n = answered_all (r + 1 + 1) kinds in
    let o4 = o3 ++ op.New n address kind (length kinds) ∷ [] in
    let last = puts_built 0 kinds ++ nips_built kinds in
    let new = build.New address kind (length kinds) ∷ last in
    let b0 = with b b.ops all r in
    let b1 = with b o1 (all ++ r ∷ []) (r + 1) in
    let b2 = with b o2 (all ++ (r + 1) ∷ []) (r + 1 + 1) in
    let b3 = with b o2 all (r + 1 + 1) in
    let b4 = with b o3 all n in
    let b5 = with b o4 (all ++ n ∷ []) (n + 1) in
    let same : length b.operands ≡ length all = ap length has in
    let l1 = length-append b.ops (op.Const r size ∷ []) in
    let l2 = length-append o1 (op.Run run.Begin (r + 1) r ∷ []) in
    let l3 = length-append o2 (check_ops xs) in
    let l4 = length-append o3 (op.New n address kind (length kinds) ∷ []) in
    let lx = length-append (check_ops xs) (new_ops text tick (registers_from r kinds) xs) in
    let a1 = length-append all (r ∷ []) in
    let a2 = length-append all ((r + 1) ∷ []) in
    taken_at (tick_built text tick kinds) b b0 (ap (λ (l : List ℕ). with b b.ops l r) has) (
      has_fits b0 1 (length all + 1) (omega (arith, room, lx)) (omega (arith, space, same)),
      taken_at (build.Run run.Begin ∷ build.Drop ∷ (checks_built kinds ++ new)) _ b1 (const_built b b.ops r size all) (
        has_needs b1 1 _ (omega (arith, a1))
            (has_fits b1 1 (length (all ++ r ∷ [])) (omega (arith, room, lx, l1)) (omega (arith, a1, space, same))),
        taken_at (build.Drop ∷ (checks_built kinds ++ new)) _ b2 (run_built b o1 (r + 1) run.Begin all r) (
          has_needs b2 1 None (omega (arith, a2)) refl,
          taken_at (checks_built kinds ++ new) _ b3 (drop_built b o2 (r + 1 + 1) all (r + 1))
              (taken_on (checks_built kinds) new b3
              (checks_taken kinds b o2 vs ws (r + 1 + 1) e (omega (arith, room, lx, l1, l2))
              (omega (arith, space, same)))
              (taken_at new _ b4 (checks_go kinds b o2 vs ws (r + 1 + 1) e) (
                has_fits b4 1 (length all + 1) (omega (arith, room, lx, l1, l2, l3)) (omega (arith, space, same)),
                taken_at last _ b5 (new_built b o3 n address kind (length kinds) all)
                    (taken_on (puts_built 0 kinds) (nips_built kinds) b5
                    (puts_taken kinds b o4 vs ws 0 (r + 1 + 1) n (n + 1) e (omega (arith, room, lx, l1, l2, l3, l4))
                    (omega (arith, space, same)))
                    (taken_at (nips_built kinds) _ (with b (o4 ++ put_ops 0 xs) (all ++ n ∷ []) (n + 1))
                    (puts_go kinds b o4 vs ws 0 (r + 1 + 1) n (n + 1) e)
                    (nips_taken kinds b (o4 ++ put_ops 0 xs) vs ws n (n + 1) e))),
              ))),
        ),
      ),
    )
