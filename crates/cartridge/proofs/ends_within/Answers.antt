use Rattle.cartridge.proofs.Cartridge.{too_short, long_enough}
use Rattle.cartridge.proofs.ends_within.Goals as goal

pub returns-then-n-lt-FONT_RECORD : goal.returns-then-n-lt-FONT_RECORD
returns-then-n-lt-FONT_RECORD c = too_short _ _ c.if-n-lt-FONT_RECORD.true

pub returns : goal.returns
returns c = long_enough _ _ c.if-n-lt-FONT_RECORD.false
