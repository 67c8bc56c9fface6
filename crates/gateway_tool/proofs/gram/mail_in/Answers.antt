use Rattle.std.proofs.Common.{sym, ◌∙◌}
use Rattle.gateway_tool.proofs.Grams.{only_behind, read_ok, read_err}
use Rattle.gateway_tool.proofs.gram.mail_in.Goals as goal

pub returns-in-Ok-read : goal.returns-in-Ok-read
returns-in-Ok-read c = read_ok c.args.bytes.now c.in-Ok.field-0 c.read.result c.in-Ok-read.mail (λ i. (c.type_inv.bytes i).fits) (sym c.gateway_read.ensures ∙ c.in-Ok.is) (only_behind c.args.bytes.now c.read.result c.read.ensures.only) c.in-Ok-read.is

pub returns-in-Err-read : goal.returns-in-Err-read
returns-in-Err-read c = read_err c.args.bytes.now c.in-Ok.field-0 c.read.result c.in-Err-read.field-0 (λ i. (c.type_inv.bytes i).fits) (sym c.gateway_read.ensures ∙ c.in-Ok.is) (only_behind c.args.bytes.now c.read.result c.read.ensures.only) c.in-Err-read.is
