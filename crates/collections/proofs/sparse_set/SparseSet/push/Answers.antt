use Rattle.std.proofs.Common.{arith, sym, ◌∙◌, ap, subst, ℕ, ◌≡◌, ◌<◌, ◌+◌, ◌++◌, List, [], ◌∷◌, false, length, take}
use Rattle.std.proofs.Common.{set}
use Rattle.std.proofs.Math.ListN.{length-set}
use Rattle.std.proofs.lemmas.List.{take_more_set}
use Rattle.collections.specs.declared.sparse_set.SparseSet.TheInside.{Inside}
use Rattle.collections.specs.contracts.sparse_set.SparseSet.{the_view, the_invariant}
use Rattle.collections.specs.Members.{Members, is_in}
use Rattle.collections.specs.Positions.{IsSparse}
use Rattle.collections.proofs.Membership.{room-left, one-more}
use Rattle.collections.proofs.sparse_set.SparseSet.push.Goals as goal

module _ (inside : Inside) (now : Members) (number : ℕ) (v : the_view inside ≡ now)
    (s : the_invariant inside) (below : number < now.room) (new : is_in number now.members ≡ false)
  where
    low : number < length inside.positions.items
    low = subst (λ (m : Members). number < m.room) (sym v) below

    absent : is_in number (take inside.count inside.members.items) ≡ false
    absent = subst (λ (m : Members). is_in number m.members ≡ false) (sym v) new

    room : inside.count < length inside.members.items
    room = room-left inside.count inside.members.items inside.positions.items s number low absent

    sparse : IsSparse (inside.count + 1) (set inside.members.items inside.count number)
        (set inside.positions.items number inside.count)
    sparse = one-more inside.count inside.members.items inside.positions.items s number low absent

    members : ◌≡◌ {A = Members}
        (record {
          room = length (set inside.positions.items number inside.count);
          members = take (inside.count + 1) (set inside.members.items inside.count number);
        })
        (record { room = now.room; members = now.members ++ number ∷ [] })
    members =
        ap (λ (n : ℕ). record {
          room = n;
          members = take (inside.count + 1) (set inside.members.items inside.count number);
        })
        (length-set inside.positions.items number inside.count)
        ∙ (ap (λ (xs : List ℕ). record { room = length inside.positions.items; members = xs })
        (take_more_set inside.members.items inside.count number room)
        ∙ ap (λ (m : Members). record { room = m.room; members = m.members ++ number ∷ [] }) v)

pub index_mut-requires-2 : goal.index_mut-requires-2
index_mut-requires-2 c =
    let r = room c.self.inside c.args.self.now c.args.number c.self.view_is c.self.invariant
    c.requires.room c.requires.new in
    omega (arith, r, c.self.inside.members.ok.0)

pub overflow_add-self : goal.overflow_add-self
overflow_add-self c =
    let r = room c.self.inside c.args.self.now c.args.number c.self.view_is c.self.invariant
    c.requires.room c.requires.new in
    omega (arith, r, c.self.invariant.room, c.self.invariant.low)

pub invariant_of-self : goal.invariant_of-self
invariant_of-self c =
    sparse c.self.inside c.args.self.now c.args.number c.self.view_is c.self.invariant
    c.requires.room
    c.requires.new

pub returns : goal.returns
returns c =
    members c.self.inside c.args.self.now c.args.number c.self.view_is c.self.invariant
    c.requires.room c.requires.new
