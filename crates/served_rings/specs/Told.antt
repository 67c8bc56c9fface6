-- What tells a master that no other reply to a mail follows.
use Rattle.std.specs.Prelude.{◌≡◌, ◌⊎◌, true, List, []}
use Rattle.served_places.specs.of_exchange_model.Exchange.{plain}
use Rattle.served_places.specs.of_link_mails.Body.{Body}
use Rattle.run_work.specs.of_master_hand.Spoken.{is_followed}
use Rattle.served_places.specs.of_serving_model.Passing.{ends_told}
use Rattle.run_work.specs.of_slave_model.Product.{emission}

-- WHAT A SLAVE GIVES FOR A MAIL TELLS ITS LAST: no reply is among it, or all replies go on but the last, by the incomplete bit in their octets
abbrev pub TellLast : List Body → Type 0
TellLast bs = (plain emission bs ≡ []) ⊎ (ends_told is_followed (plain emission bs) ≡ true)
