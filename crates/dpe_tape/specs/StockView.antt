-- What the program keeps of replies, as what the commands of a load are made of.
use Rattle.dpe_tape.specs.Load.{Stock}
use Rattle.dpe_tape.specs.declared.stock.Stock as kept

abbrev pub stock_of : kept.Stock → Stock
stock_of s = record { pool = s.pool.items; last_box = s.last_box.items; spent = s.spent }
