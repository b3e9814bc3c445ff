use Rattle.static_backend.proofs.places.scan_places.Goals as goal

pub returns-clause-legal : goal.returns-clause-legal
returns-clause-legal c = c.scan.ensures.legal c.args.ops.now c.intervals-count.ensures.intervals
