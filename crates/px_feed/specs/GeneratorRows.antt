-- A feed, worked out, and where the drops stand.
use Rattle.std.specs.Prelude.{◌≡◌, [], codes, refl}
use Rattle.std.specs.Fmt.{digits}
use Rattle.px_feed.specs.Generator.{drawn, drop_before, feed}

pub two_filters_and_a_document : feed 1 2 1 ≡
    codes "+//e6[not(e1)]\n+//e3[text()>7 or .//e2]\n(r\n(e3\nAk 2\n(e6\n-9\n)e6\n)e3\n(e7\nAk 4\n(e4\n-5\n)e4\n)e7\n(e7\nAk 9\n(e7\n-7\n)e7\n)e7\n(e6\nAk 6\n(e2\n-5\n)e2\n)e6\n)r\n"
unfolding drawn
two_filters_and_a_document = refl

pub before_the_sixteenth : drop_before 1 16 ≡ codes "~1\n"
unfolding digits
before_the_sixteenth = refl

pub no_filter_left : drop_before 1 32 ≡ []
no_filter_left = refl

pub between : drop_before 9 24 ≡ []
between = refl
