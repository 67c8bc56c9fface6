-- HOW MANY MAILS WHAT A MASTER ASKS FOR TAKES, by the shape of the slave.
use Rattle.std.specs.Prelude.{ℕ}
use Rattle.master_hand.specs.Spoken.{Asked, sdo, file, drive, net, passed}
use Rattle.few_replies.specs.of_slave_model.Profile.{Protocol, Profile}
use Rattle.few_replies.specs.Shapes.{Shape, shape_most}

-- a mail that is passed on is no service of a plan
abbrev pub asked_most : Profile → Shape → Asked → ℕ
asked_most p k (sdo q) = shape_most p k Protocol.CoE q
asked_most p k (file q) = shape_most p k Protocol.FoE q
asked_most p k (drive q) = shape_most p k Protocol.SoE q
asked_most p k (net q) = shape_most p k Protocol.EoE q
asked_most p k (passed m) = 0
