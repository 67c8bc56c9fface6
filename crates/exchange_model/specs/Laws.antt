-- The steps of rows at one moment: what a session knows of its link when it takes one.
use Rattle.std.specs.Prelude.{List}
use Rattle.exchange_model.specs.Prefix.{IsPrefixOf}
use Rattle.exchange_model.specs.Exchange.{Exchange, given}
use Rattle.exchange_model.specs.Rows.{Row, Fitting}

-- rows that fit at a link that keeps its order: what was taken was held before, and what was accepted was given for it before
pub record Moment {V A M Q R : Type 0} (x : Exchange V A M Q R) (v : V) (front last : List (Row M Q R)) (now : Row M Q R)
    (held taken accepted : List M) : Type 0 where
  pub fits : Fitting x v front last now held taken accepted
  pub order : IsPrefixOf taken held
  pub hears : IsPrefixOf accepted (given x.serve v taken)
