use Rattle.tick_parser.proofs.knot.+knot.Given as goal

abbrev pub decreases-read : goal.decreases-read
decreases-read l = l.room

abbrev pub decreases-read_stmt : goal.decreases-read_stmt
decreases-read_stmt l = l.room

abbrev pub decreases-read_declarator : goal.decreases-read_declarator
decreases-read_declarator l = l.room
