-- A small exchange that owes the laws: an adder. A sum takes two mails, the second is answered by the sum and an emission behind it;
-- a posted number takes one mail, which is answered by nothing, and emits as well.
use Rattle.std.specs.Prelude.{ℕ, suc, ◌+◌, Bool, true, false, List, [], ◌∷◌, Option, None, Some}
use Rattle.exchange_model.specs.Exchange.{Exchange, Speech}
use Rattle.exchange_model.specs.Dialogue.{Turn, next, stop, said, sent}

-- the two mails of a sum and the one of a post; what answers them, and the emission
pub data Mail : Type 0 where
  first : (n : ℕ) → Mail
  second : Mail
  posted : (n : ℕ) → Mail
  held : Mail
  total : (n : ℕ) → Mail
  refused : Mail
  noted : (n : ℕ) → Mail

-- a number is added with an answer, or posted
pub data Service : Type 0 where
  sum : (n : ℕ) → Service
  post : (n : ℕ) → Service

-- the total so far, how many services were carried out, and the number of an unfinished sum
pub record Adder : Type 0 where
  pub value : ℕ
  pub handled : ℕ
  pub half : Option ℕ

-- the second mail of a sum adds the number of the first, where there is one
abbrev pub finish : Adder → Option ℕ → Adder × List Mail
finish v None = (v, refused ∷ [])
finish v (Some n) = (record { value = v.value + n; handled = suc v.handled; half = None }, total (v.value + n) ∷ noted n ∷ [])

-- one mail
abbrev pub serve : Adder → Mail → Adder × List Mail
serve v (first n) = (record v { half = Some n }, held ∷ [])
serve v second = finish v v.half
serve v (posted n) = (record v { value = v.value + n; handled = suc v.handled }, noted n ∷ [])
serve v held = (v, refused ∷ [])
serve v (total n) = (v, refused ∷ [])
serve v refused = (v, refused ∷ [])
serve v (noted n) = (v, refused ∷ [])

-- a note replies to nothing
abbrev pub emission : Mail → Bool
emission (first n) = false
emission second = false
emission (posted n) = false
emission held = false
emission (total n) = false
emission refused = false
emission (noted n) = true

-- the client waits for one answer, and stops at all but the one to a first mail
abbrev pub decide : Mail → List Mail → Option Turn
decide m [] = None
decide m (held ∷ seen) = Some next
decide m (first n ∷ seen) = Some stop
decide m (second ∷ seen) = Some stop
decide m (posted n ∷ seen) = Some stop
decide m (total n ∷ seen) = Some stop
decide m (refused ∷ seen) = Some stop
decide m (noted n ∷ seen) = Some stop

-- what a client has to send
abbrev pub mails : Service → List Mail
mails (sum n) = first n ∷ second ∷ []
mails (post n) = posted n ∷ []

-- the reply to a sum is the second of two answers
abbrev pub ends : Service → List Mail → Option ℕ
ends (sum n) (held ∷ total value ∷ []) = Some value
ends _ _ = None

-- a post ends with its mail
abbrev pub handed : Service → Bool
handed (sum n) = false
handed (post n) = true

-- the number of a service
abbrev pub number : Service → ℕ
number (sum n) = n
number (post n) = n

-- what its client speaks
abbrev pub speech : Speech Mail Service ℕ
speech = record { emission = emission; valid = λ q. true; planned = λ q hs. said decide 2 (mails q) hs; ends = ends; handed = handed }

-- the adder as an exchange
abbrev pub adder : Exchange Adder ℕ Mail Service ℕ
adder = record {
  serve = serve;
  app = λ v. v.value;
  handled = λ v. v.handled;
  ready = λ v. true;
  speech = speech;
  full = λ v q. sent serve emission decide 2 v (mails q);
  exec = λ a q. a + number q;
  reply = λ a q. a + number q;
  emits = λ a q. noted (number q) ∷ [];
}
