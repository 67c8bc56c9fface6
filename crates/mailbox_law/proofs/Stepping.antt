-- A step of the processor over the keeper shows the step of the link.
use Rattle.std.proofs.Common.{◌≡◌, ℕ, Option, Some, None, List, [], ◌∷◌, ◌++◌, Ok, Err, refl, ap, sym, ◌∙◌, subst, append_assoc, append-nil}
use Rattle.std.specs.Prelude.{option_map, ⊤}
use Rattle.mailbox_master.specs.of_mailbox_mail.declared.mail.Mail.{Mail}
use Rattle.mailbox_master.specs.of_link_model.Mails.{LinkMail}
use Rattle.mailbox_master.specs.of_link_model.Slave.{Node, Server, SeenAs, node_seen, node_look, node_take, node_takes, node_offers, mail_offered, all_taken, all_given, processor_step}
use Rattle.mailbox_master.specs.of_link_model.Link.{Link, pdi, Event}
use Rattle.mailbox_master.specs.of_link_model.Agree.{Agrees}
use Rattle.mailbox_master.proofs.of_link_model.Servers.{step_takes}
use Rattle.mailbox_master.proofs.of_link_model.Law.{happens_keeps, taken_of_held}
use Rattle.mailbox_master.specs.of_link_mails.Body.{Body, uncounted}
use Rattle.mailbox_slave.specs.Node.{server_of}
use Rattle.mailbox_law.specs.Waiting.{Kept, keeper, bodies_of, first_of, others_of, keeps, gives}

-- the keeper as a server, and what is seen of it
abbrev pub kept_server : ℕ → Server Body Kept
kept_server al = server_of (λ k body al. keeps k body) (λ k. first_of k.waiting) gives al

abbrev pub waiting_of : Kept → List Body
waiting_of k = bodies_of k.waiting

next_waits : (ms : List Mail) → option_map (λ m. Ok (uncounted m)) (first_of ms) ≡ first_of (bodies_of ms)
next_waits [] = refl
next_waits (m ∷ ms) = refl

others_wait : (ms : List Mail) → bodies_of (others_of ms) ≡ others_of (bodies_of ms)
others_wait [] = refl
others_wait (m ∷ ms) = refl

still_waits : (k : Kept) (body : Body) → waiting_of (keeps k body) ≡ waiting_of k
still_waits k (Ok m) = refl
still_waits k (Err fault) = refl

pub seen_keeper : (al : ℕ) → SeenAs (kept_server al) keeper waiting_of
seen_keeper al = record {
  take = λ k body. still_waits k body;
  next = λ k. next_waits k.waiting;
  rest = λ k. others_wait k.waiting;
}

-- bodies of mails
abbrev AllMails : List Body → Type 0
AllMails [] = ⊤
AllMails (b ∷ bs) = ((m : Mail) × (b ≡ Ok (uncounted m))) × AllMails bs

all_mails : (ms : List Mail) → AllMails (bodies_of ms)
all_mails [] = tt
all_mails (m ∷ ms) = ((m, refl), all_mails ms)

first_mails : (xs ys : List Body) → AllMails (xs ++ ys) → AllMails xs
first_mails [] ys a = tt
first_mails (x ∷ xs) ys a = (a.0, first_mails xs ys a.1)

last_mails : (xs ys : List Body) → AllMails (xs ++ ys) → AllMails ys
last_mails [] ys a = a
last_mails (x ∷ xs) ys a = last_mails xs ys a.1

bodies_of-append : (xs ys : List Mail) → bodies_of (xs ++ ys) ≡ bodies_of xs ++ bodies_of ys
bodies_of-append [] ys = refl
bodies_of-append (x ∷ xs) ys = ap (λ bs. Ok (uncounted x) ∷ bs) (bodies_of-append xs ys)

keeps_mail : (k : Kept) (b : Body) → ((m : Mail) × (b ≡ Ok (uncounted m))) → bodies_of (keeps k b).taken ≡ bodies_of k.taken ++ (b ∷ [])
keeps_mail k b mail =
    let P : Body → Type 0 = λ x. bodies_of (keeps k x).taken ≡ bodies_of k.taken ++ (x ∷ []) in
    subst P (sym mail.1) (bodies_of-append k.taken (uncounted mail.0 ∷ []))

keeps_all : (al : ℕ) (k : Kept) (bs : List Body) → AllMails bs → bodies_of (all_taken (kept_server al) k bs).taken ≡ bodies_of k.taken ++ bs
keeps_all al k [] a = sym (append-nil (bodies_of k.taken))
keeps_all al k (b ∷ bs) a =
    keeps_all al (keeps k b) bs a.1 ∙ ap (λ xs. xs ++ bs) (keeps_mail k b a.0) ∙ append_assoc (bodies_of k.taken) (b ∷ []) bs

gives_none : (al : ℕ) (k : Kept) (bs : List Body) → (all_given (kept_server al) k bs).taken ≡ k.taken
gives_none al k [] = refl
gives_none al k (b ∷ bs) = gives_none al (gives k) bs

-- the list that waits does not grow by mails taken, and is what is offered and what waits still
taken_waits : (s bs : List Body) → all_taken keeper s bs ≡ s
taken_waits s [] = refl
taken_waits s (b ∷ bs) = taken_waits s bs

offered_waits : (box withdrawn : Option (LinkMail Body)) (s : List Body) → s ≡ (let bs = mail_offered box withdrawn (first_of s) in bs ++ all_given keeper s bs)
offered_waits (Some b) withdrawn s = refl
offered_waits None (Some m) s = refl
offered_waits None None [] = refl
offered_waits None None (b ∷ bs) = refl

-- the mails taken behind the step
pub step_taken : (al : ℕ) (n : Node Body Kept) (w : Link Body (List Body)) (held : List Mail) → node_seen waiting_of n ≡ w.node → bodies_of held ≡ w.held → bodies_of n.server.taken ≡ w.taken → Agrees w → bodies_of (processor_step (kept_server al) n).server.taken ≡ (pdi keeper w).taken
step_taken al n w held node e t a =
    let v = kept_server al in
    let l = node_look n in
    let k = node_take v l in
    let takes = node_takes v l in
    let same : takes ≡ node_takes keeper (node_look w.node) = step_takes v keeper waiting_of (seen_keeper al) n ∙ ap (λ x. node_takes keeper (node_look x)) node in
    let order = taken_of_held (pdi keeper w) (happens_keeps keeper w Event.Pdi a) in
    let mails : AllMails (w.taken ++ node_takes keeper (node_look w.node)) = first_mails _ order.0 (subst AllMails (e ∙ order.1) (all_mails held)) in
    let new : AllMails takes = subst AllMails (sym same) (last_mails w.taken _ mails) in
    ap bodies_of (gives_none al k.server (node_offers v k)) ∙ keeps_all al n.server takes new ∙ (λ i. t i ++ same i)

-- the mails given are those offered and those that wait still
pub step_given : (w : Link Body (List Body)) (given : List Body) → given ≡ w.offered ++ w.node.server → (let x = pdi keeper w in given ≡ x.offered ++ x.node.server)
step_given w given e =
    let l = node_look w.node in
    let k = node_take keeper l in
    let offers = node_offers keeper k in
    let waits : k.server ≡ w.node.server = taken_waits w.node.server (node_takes keeper l) in
    e ∙ ap (λ s. w.offered ++ s) (sym waits ∙ offered_waits k.inn.box k.inn.withdrawn k.server) ∙ sym (append_assoc w.offered offers (all_given keeper k.server offers))
