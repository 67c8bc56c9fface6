use Rattle.few_replies.proofs.Slave.{calm_slave, lawful_tells, enough_for, smaller}
use Rattle.few_replies.proofs.slave_calm.slave_calm.Goals as goal

pub returns : goal.returns
returns g c = record {
  calm = λ o p information element most law profile tells enough. calm_slave o p information element most law profile tells enough;
  tells = λ o law. lawful_tells o law;
  enough = λ p profile. enough_for p profile;
  smaller = λ p profile. smaller p profile;
}
