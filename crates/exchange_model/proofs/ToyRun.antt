-- A run of the adder, computed: a sum, a posted number and a sum. The second row begins behind the answer of the first, whose emission comes
-- later, and the third begins while the posted mail is still on its way.
use Rattle.std.proofs.Common.{◌≡◌, ℕ, List, [], ◌∷◌, Option, None, Some, refl, arith}
use Rattle.exchange_model.specs.Exchange.{after, given}
use Rattle.exchange_model.specs.Rows.{Row, Fits, begun}
use Rattle.exchange_model.specs.Laws.{Moment}
use Rattle.exchange_model.specs.Toy.{Mail, first, second, posted, held, total, noted, Service, sum, post, Adder, adder, serve}
use Rattle.exchange_model.proofs.Moments.{holds, takes, hears, answered, handed, fits}
use Rattle.exchange_model.proofs.Moments
use Rattle.exchange_model.proofs.Toys.{adder_law}

abbrev start : Adder
start = record { value = 0; handled = 0; half = None }

abbrev Line : Type 0
Line = Row Mail Service ℕ

abbrev row : Service → ℕ → List Mail → List Mail → Option (ℕ × ℕ) → Line
row q frame told heard answer = record { service = q; frame = frame; told = told; heard = heard; answer = answer }

-- the rows at the end, and what was held, taken and accepted
abbrev first_sum : Line
first_sum = row (sum 3) 0 (first 3 ∷ second ∷ []) (held ∷ total 3 ∷ []) (Some (3, 3))

abbrev a_post : Line
a_post = row (post 4) 4 (posted 4 ∷ []) (noted 3 ∷ []) None

begins : Moment adder start [] [] (begun (sum 3) 0) [] [] []
begins = Moments.first adder adder_law start refl (sum 3) 0 refl

asks : Moment adder start [] [] (row (sum 3) 0 (first 3 ∷ []) [] None) (first 3 ∷ []) (first 3 ∷ []) []
asks = takes adder adder_law start refl [] [] (row (sum 3) 0 (first 3 ∷ []) [] None) (first 3 ∷ []) [] []
    (holds adder adder_law start refl [] [] (begun (sum 3) 0) [] [] [] begins (first 3) [] refl) (first 3 ∷ []) ([], refl)

goes_on : Moment adder start [] [] (row (sum 3) 0 (first 3 ∷ second ∷ []) (held ∷ []) None) (first 3 ∷ second ∷ []) (first 3 ∷ second ∷ []) (held ∷ [])
goes_on = takes adder adder_law start refl [] [] (row (sum 3) 0 (first 3 ∷ second ∷ []) (held ∷ []) None) (first 3 ∷ second ∷ []) (first 3 ∷ []) (held ∷ [])
    (holds adder adder_law start refl [] [] (row (sum 3) 0 (first 3 ∷ []) (held ∷ []) None) (first 3 ∷ []) (first 3 ∷ []) (held ∷ [])
    (hears adder adder_law start refl [] [] (row (sum 3) 0 (first 3 ∷ []) [] None) (first 3 ∷ []) (first 3 ∷ []) [] asks (held ∷ []) 1 ([], refl)) second [] refl)
    (second ∷ []) ([], refl)

is_answered : Moment adder start [] [] first_sum (first 3 ∷ second ∷ []) (first 3 ∷ second ∷ []) (held ∷ total 3 ∷ [])
is_answered = hears adder adder_law start refl [] [] (row (sum 3) 0 (first 3 ∷ second ∷ []) (held ∷ []) None) (first 3 ∷ second ∷ []) (first 3 ∷ second ∷ []) (held ∷ [])
    goes_on (total 3 ∷ []) 3 (noted 3 ∷ [], refl)

posts : Moment adder start [] (first_sum ∷ []) a_post (first 3 ∷ second ∷ posted 4 ∷ []) (first 3 ∷ second ∷ []) (held ∷ total 3 ∷ noted 3 ∷ [])
posts = holds adder adder_law start refl [] (first_sum ∷ []) (row (post 4) 4 [] (noted 3 ∷ []) None) (first 3 ∷ second ∷ []) (first 3 ∷ second ∷ []) (held ∷ total 3 ∷ noted 3 ∷ [])
    (hears adder adder_law start refl [] (first_sum ∷ []) (begun (post 4) 4) (first 3 ∷ second ∷ []) (first 3 ∷ second ∷ []) (held ∷ total 3 ∷ [])
    (answered adder adder_law start refl [] [] first_sum (first 3 ∷ second ∷ []) (first 3 ∷ second ∷ []) (held ∷ total 3 ∷ []) is_answered (3, 3) refl refl (post 4) 4 refl)
    (noted 3 ∷ []) 4 ([], refl))
    (posted 4) [] refl

third : Moment adder start (first_sum ∷ []) (a_post ∷ []) (begun (sum 5) 5) (first 3 ∷ second ∷ posted 4 ∷ []) (first 3 ∷ second ∷ []) (held ∷ total 3 ∷ noted 3 ∷ [])
third = handed adder adder_law start refl [] (first_sum ∷ []) a_post (first 3 ∷ second ∷ posted 4 ∷ []) (first 3 ∷ second ∷ []) (held ∷ total 3 ∷ noted 3 ∷ []) posts
    refl refl (omega arith) (sum 5) 5 refl

-- three rows have begun, and the server, which has the sum alone, has carried out one of them
run_fits : Fits adder start (first_sum ∷ a_post ∷ begun (sum 5) 5 ∷ []) (after serve start (first 3 ∷ second ∷ [])) (held ∷ total 3 ∷ noted 3 ∷ [])
run_fits = fits adder adder_law start refl (first_sum ∷ []) (a_post ∷ []) (begun (sum 5) 5) (first 3 ∷ second ∷ posted 4 ∷ []) (first 3 ∷ second ∷ []) (held ∷ total 3 ∷ noted 3 ∷ []) third

server_value : (after serve start (first 3 ∷ second ∷ [])).value ≡ 3
server_value = refl

server_handled : (after serve start (first 3 ∷ second ∷ [])).handled ≡ 1
server_handled = refl

all_given : given serve start (first 3 ∷ second ∷ posted 4 ∷ []) ≡ held ∷ total 3 ∷ noted 3 ∷ noted 4 ∷ []
all_given = refl
