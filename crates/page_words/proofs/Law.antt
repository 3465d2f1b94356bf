-- A request is computed of the words if and only if they ask for it.
use Rattle.std.proofs.Common.{◌≡◌, ◌↔◌, ℕ, Bool, true, false, not, ◌&&◌, List, [], ◌∷◌, fold, Option, Some, None, refl, sym, ap, ◌∙◌, subst, if◌then◌else◌}
use Rattle.std.specs.List.{list_all}
use Rattle.coz_types.specs.Labels.{Text, is_empty}
use Rattle.page_words.specs.declared.asked.TheConstants.{USUAL_TOP}
use Rattle.page_words.specs.declared.scan.Next.{Next}
use Rattle.page_words.specs.declared.scan.Next.TheVariants as next
use Rattle.page_words.specs.Words.{Request, Given, no_words, take_word, is_path, is_free, is_right, none_or_some, number_in, top_in, request_for, request_of, request_in}
use Rattle.page_words.specs.Grammar.{Top, File, Source, Title, Link, Item, paths, values, IsGiven, IsTop, Asks}
use Rattle.page_words.proofs.Slots.{Slot, slot, take_item, list_of, are_few, has, all_free, all_held, never_twice}
use Rattle.page_words.proofs.Said.{both_true, not_true, said_forth, said_back, says_paths, are_paths}

-- what a scan has that makes this request
record Makes (f : Given) (r : Request) : Type 0 where
  once : f.twice ≡ false
  free : f.next ≡ next.Free
  profile : f.profile ≡ Some r.profile
  right : is_path r.profile ≡ true
  top : top_in f.top ≡ Some r.top
  file : f.file ≡ r.file
  source : f.source ≡ r.source
  title : f.title ≡ r.title
  link : f.link ≡ r.link
  some_file : none_or_some r.file ≡ true
  some_source : none_or_some r.source ≡ true
  some_title : none_or_some r.title ≡ true
  some_link : none_or_some r.link ≡ true

request_is : (f : Given) (r : Request) → Makes f r → request_of f ≡ Some r
request_is f r m =
    let fits : is_right f && is_path r.profile ≡ true =
    rw (m.once, m.free, m.file, m.source, m.title, m.link, m.some_file, m.some_source, m.some_title, m.some_link, m.right) refl in
    ap (λ (p : Option Text). request_for f p (top_in f.top)) m.profile
    ∙ ap (request_for f (Some r.profile)) m.top
    ∙ ap (λ (b : Bool). if b then Some (record {
      profile = r.profile;
      top = r.top;
      file = f.file;
      source = f.source;
      title = f.title;
      link = f.link;
    }) else None) fits
    ∙ rw (m.file, m.source, m.title, m.link) refl

if_some : {A : Type 0} (b : Bool) (o : Option A) (y : A) → (if b then o else None) ≡ Some y → (b ≡ true) × (o ≡ Some y)
if_some true o y e = (refl, e)
if_some false o y e = absurd cc

is_free_is : (n : Next) → is_free n ≡ true → n ≡ next.Free
is_free_is next.Free e = refl
is_free_is next.Top e = absurd cc
is_free_is next.File e = absurd cc
is_free_is next.Source e = absurd cc
is_free_is next.Title e = absurd cc
is_free_is next.Link e = absurd cc

makes : (f : Given) (r : Request) → request_of f ≡ Some r → Makes f r
makes f r = by f.profile refl (top_in f.top) refl
  where
    by : (p : Option Text) → f.profile ≡ p → (t : Option ℕ) → top_in f.top ≡ t → request_for f p t ≡ Some r → Makes f r
    by None is t of e = absurd cc
    by (Some p) is None of e = absurd cc
    by (Some p) is (Some t) of e =
        let both = if_some (is_right f && is_path p) _ r e in
        let made : Request = record { profile = p; top = t; file = f.file; source = f.source; title = f.title; link = f.link } in
        let some : Some made ≡ Some r = both.1 in
        let same : made ≡ r = cc in
        let fits = both_true (is_right f) (is_path p) both.0 in
        let right = both_true (not f.twice && is_free f.next) _ fits.0 in
        let state = both_true (not f.twice) (is_free f.next) right.0 in
        let linked = both_true (none_or_some f.file && none_or_some f.source && none_or_some f.title) (none_or_some f.link) right.1 in
        let titled = both_true (none_or_some f.file && none_or_some f.source) (none_or_some f.title) linked.0 in
        let sourced = both_true (none_or_some f.file) (none_or_some f.source) titled.0 in
        let has_file : f.file ≡ r.file = ap (λ (q : Request). q.file) same in
        let has_source : f.source ≡ r.source = ap (λ (q : Request). q.source) same in
        let has_title : f.title ≡ r.title = ap (λ (q : Request). q.title) same in
        let has_link : f.link ≡ r.link = ap (λ (q : Request). q.link) same in
        record {
          once = not_true f.twice state.0;
          free = is_free_is f.next state.1;
          profile = is ∙ ap (λ (q : Request). Some q.profile) same;
          right = subst (λ (q : Request). is_path q.profile ≡ true) same fits.1;
          top = of ∙ ap (λ (q : Request). Some q.top) same;
          file = has_file;
          source = has_source;
          title = has_title;
          link = has_link;
          some_file = subst (λ (o : Option Text). none_or_some o ≡ true) has_file sourced.0;
          some_source = subst (λ (o : Option Text). none_or_some o ≡ true) has_source sourced.1;
          some_title = subst (λ (o : Option Text). none_or_some o ≡ true) has_title titled.1;
          some_link = subst (λ (o : Option Text). none_or_some o ≡ true) has_link linked.1;
        }

-- ---- values, as a scan holds them and as the grammar states them

given_of : (o : Option Text) (held : List Text) → list_of o ≡ held → none_or_some o ≡ true → IsGiven held o
given_of None held e right = subst (λ (ts : List Text). IsGiven ts None) e refl
given_of (Some t) held e right = subst (λ (ts : List Text). IsGiven ts (Some t)) e (refl, not_true (is_empty t) right)

top_of : (o : Option Text) (held : List Text) (lines : ℕ) → list_of o ≡ held → top_in o ≡ Some lines → IsTop held lines
top_of None held lines e is = subst (λ (ts : List Text). IsTop ts lines) e (let same : lines ≡ USUAL_TOP = cc in same)
top_of (Some t) held lines e is = subst (λ (ts : List Text). IsTop ts lines) e is

of_given : (o given : Option Text) (held : List Text) → list_of o ≡ held → IsGiven held given → (o ≡ given) × (none_or_some given ≡ true)
of_given None given [] e is = (sym is, rw is refl)
of_given (Some t) given [] e is = absurd cc
of_given None given (u ∷ []) e is = absurd cc
of_given (Some t) given (u ∷ []) e is = (let same : t ≡ u = cc in ap (λ (v : Text). Some v) same ∙ sym is.0, rw (is.0, is.1) refl)
of_given o given (u ∷ v ∷ held) e is = absurd is

of_top : (o : Option Text) (lines : ℕ) (held : List Text) → list_of o ≡ held → IsTop held lines → top_in o ≡ Some lines
of_top None lines [] e is = ap (λ (n : ℕ). Some n) (sym is)
of_top (Some t) lines [] e is = absurd cc
of_top None lines (u ∷ []) e is = absurd cc
of_top (Some t) lines (u ∷ []) e is = let same : t ≡ u = cc in ap number_in same ∙ is
of_top o lines (u ∷ v ∷ held) e is = absurd is

few_given : (held : List Text) (given : Option Text) → IsGiven held given → are_few held ≡ true
few_given [] given is = refl
few_given (t ∷ []) given is = refl
few_given (t ∷ u ∷ held) given is = absurd is

few_top : (held : List Text) (lines : ℕ) → IsTop held lines → are_few held ≡ true
few_top [] lines is = refl
few_top (t ∷ []) lines is = refl
few_top (t ∷ u ∷ held) lines is = absurd is

one_is : (o : Option Text) (t : Text) → list_of o ≡ t ∷ [] → o ≡ Some t
one_is None t e = absurd cc
one_is (Some u) t e = let same : u ≡ t = cc in ap (λ (v : Text). Some v) same

-- ---- the law

asks : (words : List Text) (r : Request) → request_in words ≡ Some r → Asks words r
unfolding request_in
asks words r e =
    let f : Given = fold take_word no_words words in
    let m : Makes f r = makes f r e in
    let found = said_back words None no_words refl m.free in
    let items : List Item = found.0 in
    let once : (fold take_item no_words items).twice ≡ false = subst (λ (h : Given). h.twice ≡ false) found.2 m.once in
    let held : (s : Slot) → list_of (slot s f) ≡ has no_words s items = λ s. ap (λ (h : Given). list_of (slot s h)) found.2 ∙ all_held s items no_words once in
    let one : paths items ≡ r.profile ∷ [] = sym (held None) ∙ ap list_of m.profile in
    let right : list_all is_path (paths items) ≡ true = rw (one, m.right) refl in
    record {
      items = items;
      said = says_paths items words right found.1;
      profile = one;
      top = top_of f.top (values Top items) r.top (held (Some Top)) m.top;
      file = given_of r.file (values File items) (ap list_of (sym m.file) ∙ held (Some File)) m.some_file;
      source = given_of r.source (values Source items) (ap list_of (sym m.source) ∙ held (Some Source)) m.some_source;
      title = given_of r.title (values Title items) (ap list_of (sym m.title) ∙ held (Some Title)) m.some_title;
      link = given_of r.link (values Link items) (ap list_of (sym m.link) ∙ held (Some Link)) m.some_link;
    }

few_all : (words : List Text) (r : Request) (a : Asks words r) (s : Slot) → are_few (has no_words s a.items) ≡ true
few_all words r a None = ap are_few a.profile
few_all words r a (Some Top) = few_top _ r.top a.top
few_all words r a (Some File) = few_given _ r.file a.file
few_all words r a (Some Source) = few_given _ r.source a.source
few_all words r a (Some Title) = few_given _ r.title a.title
few_all words r a (Some Link) = few_given _ r.link a.link

asked : (words : List Text) (r : Request) → Asks words r → request_in words ≡ Some r
unfolding request_in
asked words r a =
    let h : Given = fold take_item no_words a.items in
    let once : h.twice ≡ false = never_twice a.items no_words refl (few_all words r a) in
    let held : (s : Slot) → list_of (slot s h) ≡ has no_words s a.items = λ s. all_held s a.items no_words once in
    let right : list_all is_path (r.profile ∷ []) ≡ true = subst (λ (ts : List Text). list_all is_path ts ≡ true) a.profile (are_paths a.items words a.said) in
    let file = of_given h.file r.file (values File a.items) (held (Some File)) a.file in
    let source = of_given h.source r.source (values Source a.items) (held (Some Source)) a.source in
    let title = of_given h.title r.title (values Title a.items) (held (Some Title)) a.title in
    let link = of_given h.link r.link (values Link a.items) (held (Some Link)) a.link in
    ap request_of (said_forth a.items words no_words refl a.said)
    ∙ request_is h r (record {
      once = once;
      free = all_free a.items no_words refl;
      profile = one_is h.profile r.profile (held None ∙ a.profile);
      right = (both_true (is_path r.profile) true right).0;
      top = of_top h.top r.top (values Top a.items) (held (Some Top)) a.top;
      file = file.0;
      source = source.0;
      title = title.0;
      link = link.0;
      some_file = file.1;
      some_source = source.1;
      some_title = title.1;
      some_link = link.1;
    })

pub law : (words : List Text) (r : Request) → (request_in words ≡ Some r) ↔ Asks words r
law words r = (asks words r, asked words r)
