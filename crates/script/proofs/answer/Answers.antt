use Rattle.script.proofs.Behind.{behind_all}
use Rattle.script.proofs.answer.Goals as goal

pub returns-in-Until : goal.returns-in-Until
returns-in-Until g c = λ done. behind_all _ _ _ _ c.in-Until.n c.read_table_text.new.text c.in-Until.ensures.bytes (c.answer_text.ensures done)
