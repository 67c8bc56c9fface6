-- The datagrams of one frame to one station, in any order, are events of its link.
use Rattle.std.proofs.Common.{◌≡◌, Bool, Option, Some, None, List, [], ◌∷◌, ◌++◌, refl, ap, sym, ◌∙◌, subst, append_assoc, append-nil}
use Rattle.link_model.specs.Mails.{LinkMail, news}
use Rattle.link_model.specs.Master.{InHalf, InState, out_answered, read_answered, read_lost}
use Rattle.link_model.specs.Slave.{Server}
use Rattle.link_model.specs.Link.{Halves, Link, Fate, Event, run, written, write_counter, out_half_after, out_side_after, in_half_after, in_side_after, in_news, in_sent}
use Rattle.link_model.specs.Frames.{Ask, Gram, IsSent, IsSent.nothing, IsSent.other, IsSent.write, IsSent.inward, in_ask, events_of, event_of, node_meets, gram_meets, write_done, read_done, halves_answered, halves_accept, halves_lost}
use Rattle.link_model.proofs.Own.{node_all, grams_all, halves_all, accepted_all, lost_all}

-- the link alone behind its own datagrams, with this fate
abbrev pub link_after : {B S : Type 0} → Fate → Link B S → List (Gram B) → Link B S
link_after Fate.Pass w gs =
    record w { halves = halves_all w.halves (grams_all w.node gs); node = node_all w.node gs; accepted = w.accepted ++ accepted_all w.halves (grams_all w.node gs) }
link_after Fate.LostBefore w gs = record w { halves = lost_all w.halves gs }
link_after Fate.LostBehind w gs = record w { halves = lost_all w.halves gs; node = node_all w.node gs }

-- the link behind one of its datagrams
abbrev moved : {B S : Type 0} → Fate → Link B S → Gram B → Link B S
moved Fate.Pass w g =
    let back = gram_meets w.node g.ask g in
    record w { halves = halves_answered w.halves back.ask back; node = node_meets w.node g.ask; accepted = w.accepted ++ halves_accept w.halves back.ask back }
moved Fate.LostBefore w g = record w { halves = halves_lost w.halves g.ask }
moved Fate.LostBehind w g = record w { halves = halves_lost w.halves g.ask; node = node_meets w.node g.ask }

moved_first : {B S : Type 0} (fate : Fate) (w : Link B S) (g : Gram B) (gs : List (Gram B)) → link_after fate w (g ∷ gs) ≡ link_after fate (moved fate w g) gs
moved_first Fate.Pass w g gs =
    let back = gram_meets w.node g.ask g in
    let later = grams_all (node_meets w.node g.ask) gs in
    ap (λ xs. record w { halves = halves_all (halves_answered w.halves back.ask back) later; node = node_all (node_meets w.node g.ask) gs; accepted = xs }) (sym (append_assoc w.accepted (halves_accept w.halves back.ask back) (accepted_all (halves_answered w.halves back.ask back) later)))
moved_first Fate.LostBefore w g gs = refl
moved_first Fate.LostBehind w g gs = refl

no_more : {B S : Type 0} (w : Link B S) → w ≡ record w { accepted = w.accepted ++ [] }
no_more w = ap (λ xs. record w { accepted = xs }) (sym (append-nil w.accepted))

-- a write of mailbox 0 and the half that wrote
write_back : {B : Type 0} (h : Halves B) (g : Gram B) (m : LinkMail B) (box : Option (LinkMail B)) → record h { out = out_answered h.out (write_counter box) } ≡ (let back = write_done (record g { ask = Ask.WriteMail m; counter = 0 }) box in halves_answered h back.ask back)
write_back h g m None = refl
write_back h g m (Some stands) = refl

write_accepts : {B : Type 0} (h : Halves B) (g : Gram B) (m : LinkMail B) (box : Option (LinkMail B)) → [] ≡ (let back = write_done (record g { ask = Ask.WriteMail m; counter = 0 }) box in halves_accept h back.ask back)
write_accepts h g m None = refl
write_accepts h g m (Some stands) = refl

-- a read of mailbox 1 and the half that read
read_back : {B : Type 0} (h : Halves B) (g : Gram B) (box : Option (LinkMail B)) → record h { inn = read_answered h.inn box } ≡ (let back = read_done (record g { ask = Ask.ReadMail; counter = 0 }) box in halves_answered h back.ask back)
read_back h g None = refl
read_back h g (Some m) = refl

read_accepts : {B : Type 0} (h : Halves B) (g : Gram B) (box : Option (LinkMail B)) → news h.inn.last box ≡ (let back = read_done (record g { ask = Ask.ReadMail; counter = 0 }) box in halves_accept h back.ask back)
read_accepts h g None = refl
read_accepts h g (Some m) = refl

write_moves : {B S : Type 0} (fate : Fate) (w : Link B S) (g : Gram B) (m : LinkMail B) → record w { halves = record w.halves { out = out_half_after w.halves.out (Some m) w.node.out.box fate }; node = record w.node { out = out_side_after w.node.out (Some m) w.node.out.box fate } } ≡ moved fate w (record g { ask = Ask.WriteMail m; counter = 0 })
write_moves Fate.Pass w g m =
    let p = write_back w.halves g m w.node.out.box in
    let q = sym (append-nil w.accepted) ∙ ap (λ xs. w.accepted ++ xs) (write_accepts w.halves g m w.node.out.box) in
    λ i. record w { halves = p i; node = record w.node { out = written w.node.out w.node.out.box m }; accepted = q i }
write_moves Fate.LostBefore w g m = refl
write_moves Fate.LostBehind w g m = refl

in_moves : {B S : Type 0} (fate : Fate) (w : Link B S) (g : Gram B) (state : InState) → record w { halves = record w.halves { inn = in_half_after w.halves.inn state w.node.inn.box w.node.inn.acknowledge fate }; node = record w.node { inn = in_side_after w.node.inn state w.halves.inn.bit fate }; accepted = w.accepted ++ in_news w.halves.inn state w.node.inn.box fate } ≡ moved fate w (record g { ask = in_ask state w.halves.inn.bit; counter = 0 })
in_moves Fate.Pass w g InState.Clear =
    let p = read_back w.halves g w.node.inn.box in
    let q = ap (λ xs. w.accepted ++ xs) (read_accepts w.halves g w.node.inn.box) in
    λ i. record w { halves = p i; node = record w.node { inn = record w.node.inn { box = None } }; accepted = q i }
in_moves Fate.Pass w g InState.Doubt = refl
in_moves Fate.Pass w g InState.Asked = refl
in_moves Fate.Pass w g InState.Refetch =
    let p = read_back w.halves g w.node.inn.box in
    let q = ap (λ xs. w.accepted ++ xs) (read_accepts w.halves g w.node.inn.box) in
    λ i. record w { halves = p i; node = record w.node { inn = record w.node.inn { box = None } }; accepted = q i }
in_moves Fate.LostBefore w g InState.Clear = ap (λ xs. record w { halves = record w.halves { inn = read_lost w.halves.inn }; accepted = xs }) (append-nil w.accepted)
in_moves Fate.LostBefore w g InState.Doubt = sym (no_more w)
in_moves Fate.LostBefore w g InState.Asked = sym (no_more w)
in_moves Fate.LostBefore w g InState.Refetch = ap (λ xs. record w { halves = record w.halves { inn = read_lost w.halves.inn }; accepted = xs }) (append-nil w.accepted)
in_moves Fate.LostBehind w g InState.Clear = ap (λ xs. record w { halves = record w.halves { inn = read_lost w.halves.inn }; node = record w.node { inn = record w.node.inn { box = None } }; accepted = xs }) (append-nil w.accepted)
in_moves Fate.LostBehind w g InState.Doubt = ap (λ xs. record w { node = record w.node { inn = record w.node.inn { request = w.halves.inn.bit } }; accepted = xs }) (append-nil w.accepted)
in_moves Fate.LostBehind w g InState.Asked = sym (no_more w)
in_moves Fate.LostBehind w g InState.Refetch = ap (λ xs. record w { halves = record w.halves { inn = read_lost w.halves.inn }; node = record w.node { inn = record w.node.inn { box = None } }; accepted = xs }) (append-nil w.accepted)

other_moves : {B S : Type 0} (fate : Fate) (w : Link B S) (g : Gram B) → w ≡ moved fate w (record g { ask = Ask.Other })
other_moves Fate.Pass w g = no_more w
other_moves Fate.LostBefore w g = refl
other_moves Fate.LostBehind w g = refl

event_of-in : {B S : Type 0} (fate : Fate) (state : InState) (bit : Bool) (es : List (Event B S)) → event_of fate (in_ask state bit) es ≡ Event.In fate ∷ es
event_of-in fate InState.Clear bit es = refl
event_of-in fate InState.Doubt bit es = refl
event_of-in fate InState.Asked bit es = refl
event_of-in fate InState.Refetch bit es = refl

-- a datagram asks what is said, with working counter 0
asks : {B : Type 0} (g : Gram B) (ask : Ask B) → g.ask ≡ ask → g.counter ≡ 0 → record g { ask = ask; counter = 0 } ≡ g
asks g ask e c = λ i. record g { ask = sym e i; counter = sym c i }

asks_other : {B : Type 0} (g : Gram B) (ask : Ask B) → g.ask ≡ ask → record g { ask = ask } ≡ g
asks_other g ask e = λ i. record g { ask = sym e i }

run_after : {B S : Type 0} (fate : Fate) (v : Server B S) (held : Option (LinkMail B)) (inn : Option InHalf) (gs : List (Gram B)) → IsSent held inn gs → (w : Link B S) → ((m : LinkMail B) → held ≡ Some m → w.halves.out.holding ≡ Some m) → ((h : InHalf) → inn ≡ Some h → w.halves.inn ≡ h) → run v w (events_of fate gs) ≡ link_after fate w gs
run_after Fate.Pass v held inn gs nothing w o i = no_more w
run_after Fate.LostBefore v held inn gs nothing w o i = refl
run_after Fate.LostBehind v held inn gs nothing w o i = refl
run_after {B} {S} fate v held inn gs (other g later e rest) w o i =
    let alone = record g { ask = Ask.Other } in
    let P : Gram B → Type 0 = λ k. run v w (events_of fate (k ∷ later)) ≡ link_after fate w (k ∷ later) in
    subst P (asks_other g Ask.Other e) (run_after fate v held inn later rest w o i ∙ ap (λ x. link_after fate x later) (other_moves fate w g) ∙ sym (moved_first fate w alone later))
run_after {B} {S} fate v held inn gs (write m g later e c rest) w o i =
    let alone = record g { ask = Ask.WriteMail m; counter = 0 } in
    let P : Gram B → Type 0 = λ k. run v w (events_of fate (k ∷ later)) ≡ link_after fate w (k ∷ later) in
    let sent : Option (LinkMail B) → Link B S = λ holding. record w { halves = record w.halves { out = out_half_after w.halves.out holding w.node.out.box fate }; node = record w.node { out = out_side_after w.node.out holding w.node.out.box fate } } in
    subst P (asks g (Ask.WriteMail m) e c) (ap (λ holding. run v (sent holding) (events_of fate later)) (o m refl) ∙ run_after fate v None inn later rest (sent (Some m)) (λ k none. absurd (cc)) i ∙ ap (λ x. link_after fate x later) (write_moves fate w g m) ∙ sym (moved_first fate w alone later))
run_after {B} {S} fate v held inn gs (inward h g later e c rest) w o i =
    let ask = in_ask {B = B} w.halves.inn.state w.halves.inn.bit in
    let alone = record g { ask = ask; counter = 0 } in
    let P : Gram B → Type 0 = λ k. run v w (events_of fate (k ∷ later)) ≡ link_after fate w (k ∷ later) in
    let asked : g.ask ≡ ask = e ∙ ap (λ k. in_ask k.state k.bit) (sym (i h refl)) in
    subst P (asks g ask asked c) (ap (run v w) (event_of-in fate w.halves.inn.state w.halves.inn.bit (events_of fate later)) ∙ run_after fate v held None later rest (in_sent w fate) o (λ k none. absurd (cc)) ∙ ap (λ x. link_after fate x later) (in_moves fate w g w.halves.inn.state) ∙ sym (moved_first fate w alone later))

-- the datagrams of one frame to one station are events of its link
pub run-events_of : {B S : Type 0} (fate : Fate) (v : Server B S) (gs : List (Gram B)) (w : Link B S) → IsSent w.halves.out.holding (Some w.halves.inn) gs → run v w (events_of fate gs) ≡ link_after fate w gs
run-events_of fate v gs w sent = run_after fate v w.halves.out.holding (Some w.halves.inn) gs sent w (λ m e. e) (λ h e. cc)
