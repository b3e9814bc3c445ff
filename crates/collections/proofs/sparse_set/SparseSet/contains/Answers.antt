use Rattle.std.proofs.Common.{arith, sym, ◌∙◌, ap, subst, ℕ, ◌≡◌, ◌<◌, length, get_or}
use Rattle.std.proofs.lemmas.List.{get_or_read}
use Rattle.collections.specs.declared.sparse_set.SparseSet.TheInside.{Inside}
use Rattle.collections.specs.contracts.sparse_set.SparseSet.{the_view}
use Rattle.collections.specs.Members.{Members, is_in}
use Rattle.collections.proofs.Membership.{is_in-back, not_in-back}
use Rattle.collections.proofs.sparse_set.SparseSet.contains.Goals as goal

-- the position that was read is the one that the list has
read : (inside : Inside) (now : Members) (number at : ℕ) → the_view inside ≡ now → number < now.room
    → at ≡ get_or inside.positions.items number at → at ≡ get_or inside.positions.items number 0
read inside now number at v h e =
    let l : number < length inside.positions.items =
    subst (λ (m : Members). number < m.room) (sym v) h in
    get_or_read inside.positions.items number at l e 0

pub returns-then-position-self : goal.returns-then-position-self
returns-then-position-self c =
    let r = c.self.inside in
    let s = c.self.invariant in
    let p = read r c.args.self.now c.args.number c.index-position.result.now c.self.view_is
    c.requires
    c.index-position.ensures in
    let l : c.index-position.result.now < length r.members.items = omega
    (arith, s.within, c.if-position-self.true) in
    let m = get_or_read r.members.items c.index-position.result.now c.index.result.now l
    c.index.ensures 0 in
    is_in-back r.count r.members.items r.positions.items s c.args.number c.index-position.result.now
    c.index.result.now p c.if-position-self.true m
    ∙ ap (λ (v : Members). is_in c.args.number v.members) c.self.view_is

pub returns-else-position-self : goal.returns-else-position-self
returns-else-position-self c =
    let r = c.self.inside in
    let p = read r c.args.self.now c.args.number c.index-position.result.now c.self.view_is
    c.requires
    c.index-position.ensures in
    not_in-back r.count r.members.items r.positions.items c.self.invariant c.args.number
    c.index-position.result.now p c.if-position-self.false
    ∙ ap (λ (v : Members). is_in c.args.number v.members) c.self.view_is
