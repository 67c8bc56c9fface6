use Rattle.std.proofs.Common.{◌≡◌, None, sym, ◌∙◌, subst}
use Rattle.master_node.specs.of_eoe.Joining.{joins}
use Rattle.slave_server.specs.of_exchange_model.Prefix.{IsPrefixOf}
use Rattle.master_node.specs.of_master_hand.Joins.{fragment_in}
use Rattle.packets_heard.specs.Packets.{octets_of, parts, wholes}
use Rattle.packets_heard.proofs.PacketParts.{joined_first, joined_all}
use Rattle.packets_heard.proofs.Parts.{packets_whole, run_joined, serving_joined}
use Rattle.packets_heard.proofs.packets_law.Goals as goal

pub returns-clause-runs : goal.returns-clause-runs
returns-clause-runs c = λ lens recover retry missed first as' fs led. run_joined led

pub returns-clause-servings : goal.returns-clause-servings
returns-clause-servings c = λ lens recover retry missed first ws fs led. serving_joined led

pub returns-clause-whole : goal.returns-clause-whole
returns-clause-whole c = λ room ps ms rest wide are e. subst (λ l. IsPrefixOf l (octets_of ps)) (sym (packets_whole None ms)) (joined_first room wide ps are (parts fragment_in ms) rest e).packets

pub returns-clause-all : goal.returns-clause-all
returns-clause-all c = λ room ps ms wide are e. packets_whole None ms ∙ subst (λ fs. wholes (joins None fs) ≡ octets_of ps) (sym e) (joined_all room wide ps are).packets
