mod CodeSpans
mod NamesEnded
