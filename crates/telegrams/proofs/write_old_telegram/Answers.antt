use Rattle.effbd.specs.Editions.{old_telegram}
use Rattle.telegrams.proofs.Written.{no_room, old-size, old-stored-is}
use Rattle.telegrams.proofs.write_old_telegram.Goals as goal

pub returns-then-area : goal.returns-then-area
returns-then-area c = no_room 8 (old_telegram c.args.code c.args.argument) c.args.area.now (old-size c.args.code c.args.argument) c.if-area.true

pub returns : goal.returns
returns c = old-stored-is c.args.area.now c.args.code c.args.argument c.if-area.false c.put_word.ensures c.put_word-2.ensures c.put_word-3.ensures c.put_word-4.ensures
