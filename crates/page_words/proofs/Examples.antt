-- Word lists, the items that they say and the requests that they make.
use Rattle.std.proofs.Common.{◌≡◌, inl, inr, List, [], ◌∷◌, codes, map, Some, None, refl}
use Rattle.std.specs.Fmt.{digits}
use Rattle.coz_types.specs.Labels.{Text}
use Rattle.page_words.specs.Words.{Request, request_in}
use Rattle.page_words.specs.Grammar.{Top, File, path, option, SaysAll, Asks}

abbrev plain : Request
plain = record { profile = codes "p"; top = 20; file = None; source = None; title = None; link = None }

-- ---- words that ask for a request, with the items that show it

top_first : Asks (codes "--top" ∷ codes "5" ∷ codes "p" ∷ []) (record plain { top = 5 })
unfolding digits
top_first = record {
  items = option Top (codes "5") ∷ path (codes "p") ∷ [];
  said = (codes "--top" ∷ codes "5" ∷ [], codes "p" ∷ [], refl, inr refl, (codes "p" ∷ [], [], refl, (refl, refl), refl));
  profile = refl;
  top = refl;
  file = refl;
  source = refl;
  title = refl;
  link = refl;
}

top_last : Asks (codes "p" ∷ codes "--top=5" ∷ []) (record plain { top = 5 })
unfolding digits
top_last = record {
  items = path (codes "p") ∷ option Top (codes "5") ∷ [];
  said = (codes "p" ∷ [], codes "--top=5" ∷ [], refl, (refl, refl), (codes "--top=5" ∷ [], [], refl, inl refl, refl));
  profile = refl;
  top = refl;
  file = refl;
  source = refl;
  title = refl;
  link = refl;
}

-- the word after an option is its value, even if it is the word of an option
value_first : SaysAll (option File (codes "--top") ∷ path (codes "p") ∷ []) (codes "--file" ∷ codes "--top" ∷ codes "p" ∷ [])
value_first = (codes "--file" ∷ codes "--top" ∷ [], codes "p" ∷ [], refl, inr refl, (codes "p" ∷ [], [], refl, (refl, refl), refl))

-- ---- word lists and their requests

abbrev made : List (List Text × Request)
made =
    (codes "p" ∷ [], plain)
    ∷ (codes "--top" ∷ codes "5" ∷ codes "p" ∷ [], record plain { top = 5 })
    ∷ (codes "p" ∷ codes "--top=5" ∷ [], record plain { top = 5 })
    ∷ (codes "p" ∷ codes "--top" ∷ codes "1000" ∷ [], record plain { top = 1000 })
    ∷ (codes "--file" ∷ codes "--top" ∷ codes "p" ∷ [], record plain { file = Some (codes "--top") })
    ∷ (codes "--file" ∷ codes "--file=a" ∷ codes "p" ∷ [], record plain { file = Some (codes "--file=a") })
    ∷ (codes "--title=a=b" ∷ codes "p" ∷ codes "--link" ∷ codes "q" ∷ [], record plain { title = Some (codes "a=b"); link = Some (codes "q") })
    ∷ (codes "--source" ∷ codes "src" ∷ codes "a--top" ∷ [], record plain { profile = codes "a--top"; source = Some (codes "src") })
    ∷ []

requests : map (λ row. request_in row.0) made ≡ map (λ row. Some row.1) made
unfolding request_in digits
requests = refl

-- ---- word lists with no request

abbrev none_of : List (List Text)
none_of =
    []
    ∷ ([] ∷ [])
    ∷ (codes "p" ∷ codes "q" ∷ [])
    ∷ (codes "--top" ∷ codes "--file" ∷ codes "p" ∷ [])
    ∷ (codes "p" ∷ codes "--top" ∷ [])
    ∷ (codes "p" ∷ codes "--top" ∷ codes "0" ∷ [])
    ∷ (codes "p" ∷ codes "--top=1001" ∷ [])
    ∷ (codes "p" ∷ codes "--top=05" ∷ [])
    ∷ (codes "p" ∷ codes "--top=5" ∷ codes "--top" ∷ codes "5" ∷ [])
    ∷ (codes "p" ∷ codes "--file=" ∷ [])
    ∷ (codes "p" ∷ codes "--file" ∷ [] ∷ [])
    ∷ (codes "p" ∷ codes "--files=a" ∷ [])
    ∷ (codes "p" ∷ codes "--" ∷ [])
    ∷ (codes "-" ∷ [])
    ∷ (codes "--other" ∷ codes "p" ∷ [])
    ∷ []

refused : map request_in none_of ≡ map (λ words. None) none_of
unfolding request_in digits
refused = refl
