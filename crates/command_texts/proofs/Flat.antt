-- The lines of harts and visits, one after the other.
use Rattle.std.proofs.Common.{◌≡◌, ℕ, ◌+◌, List, [], ◌∷◌, ◌++◌, map, refl, ap}
use Rattle.std.specs.List.{flat_map, enumerate_from}
use Rattle.coz_types.specs.Labels.{Text}
use Rattle.coz_types.specs.declared.record.Account.{Account}
use Rattle.coz_types.specs.declared.record.Visit.{Visit}
use Rattle.delay_credits.specs.Delays.{account_as}
use Rattle.machines.specs.KeptVisits.{net_of, visit_as}
use Rattle.command_texts.specs.Text.{hart_text, harts_text, visit_text, visits_text, net_visit_text, net_visits_text}

abbrev pub hart_line : ℕ × Account → Text
hart_line hart = hart_text hart.0 (account_as hart.1)

pub harts_flat : (n : ℕ) (accounts : List Account) → flat_map hart_line (enumerate_from n accounts) ≡ harts_text n (map account_as accounts)
unfolding harts_text
harts_flat n [] = refl
harts_flat n (account ∷ accounts) = ap (λ (rest : Text). hart_line (n, account) ++ rest) (harts_flat (n + 1) accounts)

abbrev pub visit_line : Visit → Text
visit_line visit = visit_text (visit_as visit)

pub visits_flat : (visits : List Visit) → flat_map visit_line visits ≡ visits_text (map visit_as visits)
unfolding visits_text
visits_flat [] = refl
visits_flat (visit ∷ visits) = ap (λ (rest : Text). visit_line visit ++ rest) (visits_flat visits)

abbrev pub net_visit_line : Visit → Text
net_visit_line visit = net_visit_text (net_of visit)

pub net_visits_flat : (visits : List Visit) → flat_map net_visit_line visits ≡ net_visits_text (map net_of visits)
unfolding net_visits_text
net_visits_flat [] = refl
net_visits_flat (visit ∷ visits) = ap (λ (rest : Text). net_visit_line visit ++ rest) (net_visits_flat visits)
