use Rattle.std.proofs.Common.{refl, ap, ◌∙◌, true}
use Rattle.icode_ir.specs.Building.{Building}
use Rattle.mips_model.specs.declared.bad_service.BadService.TheVariants as reason
use Rattle.mips_model.specs.CodeServices as services
use Rattle.icode_service.specs.Held.{generator}
use Rattle.icode_service.proofs.Outcomes.{refused, done, build_some, build_none, begin_twice, begin_many, begin_new}
use Rattle.icode_service.proofs.service.Service.begin.Goals as goal

pub returns-then-self : goal.returns-then-self
returns-then-self c =
    let i = c.self.inside in
    let g = c.args.self.now in
    let b = build_some i.is_begun i.builder i.count i.places.items i.spills g c.self.view_is c.if-self.true in
    λ a r. refused (services.begin c.args.parameters g) reason.Begun
    (begin_twice c.args.parameters g i.builder.build b) g g a a r r refl refl refl

pub returns-then-parameters-gt-MOST_ARGUMENTS : goal.returns-then-parameters-gt-MOST_ARGUMENTS
returns-then-parameters-gt-MOST_ARGUMENTS c =
    let i = c.self.inside in
    let g = c.args.self.now in
    let b = build_none i.is_begun i.builder i.count i.places.items i.spills g c.self.view_is c.if-self.false in
    λ a r. refused (services.begin c.args.parameters g) reason.BadArgument
    (begin_many c.args.parameters g b c.if-parameters-gt-MOST_ARGUMENTS.true) g g a a r r refl refl refl

pub returns : goal.returns
returns c =
    let i = c.self.inside in
    let g = c.args.self.now in
    let p = c.args.parameters in
    let b = build_none i.is_begun i.builder i.count i.places.items i.spills g c.self.view_is c.if-self.false in
    λ a r. done (services.begin p g) 0 (services.begun p g) (λ x. x) (λ x. x)
    (begin_new p g b c.if-parameters-gt-MOST_ARGUMENTS.false) g
    (generator true c.begin.new.self i.count i.places.items i.spills) a a r r
    (ap (λ (x : Building). generator true x i.count i.places.items i.spills) c.begin.ensures
    ∙ ap (services.begun p) c.self.view_is)
    refl refl
