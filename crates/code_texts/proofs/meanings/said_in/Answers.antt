use Rattle.code_texts.proofs.Kept.{said_found}
use Rattle.code_texts.proofs.meanings.said_in.Goals as goal

pub returns-in-Some : goal.returns-in-Some
returns-in-Some c = said_found c.args.rows.now c.args.code.now _ c.in-Some.row c.row_of.result c.row_of.ensures c.in-Some.is c.parts.ensures.text
