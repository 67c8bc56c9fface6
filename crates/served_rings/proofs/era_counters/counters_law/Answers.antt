use Rattle.served_rings.proofs.Counted.{counted_first, news_came, counted_back, news_gone, counted_lost}
use Rattle.served_rings.proofs.era_counters.counters_law.Goals as goal

pub returns-clause-begins : goal.returns-clause-begins
returns-clause-begins g c = λ spot opened fs is. counted_first spot opened fs is

pub returns-clause-back : goal.returns-clause-back
returns-clause-back g c = λ spot opened fs led kept counts t is later n pace made sent back came steps. (
  news_came spot opened fs led kept counts t is later n pace made sent back came steps,
  counted_back spot opened fs led kept counts t is later n pace made sent back came steps,
)

pub returns-clause-lost : goal.returns-clause-lost
returns-clause-lost g c = λ spot opened fs led kept counts t is later pace made sent none steps. (
  news_gone spot opened fs led kept counts t is later pace made sent none steps,
  counted_lost spot opened fs led kept counts t is later pace made sent none steps,
)
