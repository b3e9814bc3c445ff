use Rattle.check_declarators.proofs.Takes.{array_grows}
use Rattle.check_declarators.proofs.making.grown.Goals as goal

pub returns-in-Array : goal.returns-in-Array
returns-in-Array c = array_grows c.args.base c.args.layers.now c.args.layer.now _ _ _ c.in-Array.is c.requires
    c.product.ensures
